use Rattle.std.proofs.Common.{arith}
use Rattle.krb_files.proofs.reader.load.Goals as goal

pub append_read-requires : goal.append_read-requires
append_read-requires g c =
    let room = c.min-room.ensures in
    let next = c.next_read.ensures in
    let len = c.len.ensures in
    let fits = c.ranges.limit.fits in
    let within = c.loop-bytes.invariant.within in
    (omega (arith, room, next.some), omega (arith, room, next.most, within, fits))
