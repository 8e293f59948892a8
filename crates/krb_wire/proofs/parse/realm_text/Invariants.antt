use Rattle.krb_wire.proofs.Cited.{◌≡◌, length, atoms, after_at}
use Rattle.krb_wire.proofs.parse.realm_text.Given as goal

abbrev pub invariant-loop-atom : goal.invariant-loop-atom
invariant-loop-atom l = after_at (atoms l.rest) ≡ after_at (atoms l.fn.text)

abbrev pub decreases-loop-atom : goal.decreases-loop-atom
decreases-loop-atom l = length l.rest
