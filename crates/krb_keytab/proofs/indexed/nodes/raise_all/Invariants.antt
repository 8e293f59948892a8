-- The nodes after those that are still to come are right; the leaves stay.
use Rattle.krb_keytab.proofs.Cited.{◌≡◌, ◌+◌, ◌-◌, ◌*◌, length, drop, AreNodesFrom}
use Rattle.krb_keytab.proofs.indexed.nodes.raise_all.Given as goal

abbrev pub invariant-loop-done : goal.invariant-loop-done
invariant-loop-done l = record {
  len : length l.nodes ≡ 2 * l.leaves;
  inner : AreNodesFrom (l.leaves + 1 - l.done) l.leaves l.nodes;
  leaves : drop l.leaves l.nodes ≡ drop l.leaves l.fn.nodes;
}
