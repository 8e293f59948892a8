-- The sizes before are written, those from there on are unchanged.
use Rattle.krb_keytab.proofs.Cited.{◌≡◌, ◌++◌, map, take, drop, free_size}
use Rattle.krb_keytab.proofs.indexed.tree.put_sizes.Given as goal

abbrev pub invariant-loop-i : goal.invariant-loop-i
invariant-loop-i l = l.sizes ≡ map free_size (take l.i l.slots) ++ drop l.i l.fn.sizes
