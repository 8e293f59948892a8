use Rattle.krb_wire.proofs.Cited.{◌≡◌, length, atoms, faults_of, first_fault, faults_from}
use Rattle.krb_wire.proofs.parse.leftmost_fault.Given as goal

abbrev pub invariant-loop-atom : goal.invariant-loop-atom
invariant-loop-atom l = first_fault (faults_from l.in_realm (atoms l.rest)) ≡ first_fault (faults_of (atoms l.fn.text))

abbrev pub decreases-loop-atom : goal.decreases-loop-atom
decreases-loop-atom l = length l.rest
