-- Only the node over the last that was computed may be wrong; the leaves stay.
use Rattle.krb_keytab.proofs.Cited.{◌≡◌, ◌<◌, ◌*◌, ◌/◌, length, drop, AreNodesBut}
use Rattle.krb_keytab.proofs.indexed.nodes.raise.Given as goal

abbrev pub invariant-loop-at : goal.invariant-loop-at
invariant-loop-at l = record {
  len : length l.nodes ≡ 2 * l.leaves;
  above : 0 < l.at;
  below : l.at < 2 * l.leaves;
  others : AreNodesBut (l.at / 2) l.leaves l.nodes;
  leaves : drop l.leaves l.nodes ≡ drop l.leaves l.fn.nodes;
}

abbrev pub decreases-loop-at : goal.decreases-loop-at
decreases-loop-at l = l.at
