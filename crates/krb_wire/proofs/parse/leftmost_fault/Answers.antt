use Rattle.std.proofs.Common.{false}
use Rattle.krb_wire.proofs.parse.leftmost_fault.Goals as goal

pub loop-atom-init : goal.loop-atom-init
loop-atom-init c = c.from_special-rest.ensures.faults false
