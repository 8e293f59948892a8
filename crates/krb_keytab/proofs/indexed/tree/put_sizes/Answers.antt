use Rattle.krb_keytab.specs.Slot.{free_size}
use Rattle.krb_keytab.proofs.SizeLemmas.{write_next}
use Rattle.krb_keytab.proofs.indexed.tree.put_sizes.Goals as goal

pub loop-i-preserved : goal.loop-i-preserved
loop-i-preserved c = rw c.free_size.ensures (write_next free_size c.args.slots.now c.args.sizes.now c.loop-i.sizes c.loop-i.i _ c.loop-i.invariant c.loop-i-test.true c.requires)
