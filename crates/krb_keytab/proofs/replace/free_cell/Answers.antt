use Rattle.krb_keytab.proofs.Cited.{rules, arith, sym, zero_hole}
use Rattle.krb_keytab.proofs.ImageChanges.{bytes_of_size, live_in, freed_is, as_many}
use Rattle.krb_keytab.proofs.replace.free_cell.Goals as goal

pub put_hole-requires : goal.put_hole-requires
put_hole-requires c =
    let b = bytes_of_size _ c.args.size c.requires.live c.requires.size in
    let s = live_in c.args.format c.args.image.now c.args.place b.0 c.args.end c.bytes_fit.ensures c.requires.known.ends b.1 in
    record { room = omega (arith, s.room, b.2); some = omega (arith, s.sound.0, b.2); small = omega (arith, s.sound.1, b.2) }

pub returns : goal.returns
returns c =
    let fits = c.bytes_fit.ensures in
    let b = bytes_of_size _ c.args.size c.requires.live c.requires.size in
    let s = live_in c.args.format c.args.image.now c.args.place b.0 c.args.end fits c.requires.known.ends b.1 in
    let freed = freed_is c.args.format c.args.image.now c.put_hole.new.image b.0 c.args.place c.args.size c.args.end c.requires.known.within (omega (arith, s.sound.0, b.2)) (omega (arith, s.sound.1, b.2)) fits (λ i. omega (arith, c.type_inv.image i)) c.requires.known.ends b.1 (sym b.2) c.put_hole.ensures in
    record {
      len = search rules;
      count = as_many c.args.format c.args.image.now c.put_hole.new.image zero_hole c.args.place _ c.args.end freed;
      changed = freed;
    }
