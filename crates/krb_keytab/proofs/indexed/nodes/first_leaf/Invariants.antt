-- A leaf under the node is large enough, and none before those under it is; each level took one look.
use Rattle.krb_keytab.proofs.Cited.{◌≡◌, ◌+◌}
use Rattle.krb_keytab.proofs.indexed.nodes.first_leaf.Given as goal
use Rattle.krb_keytab.proofs.NodeLemmas.{Descends}

abbrev pub invariant-levels : goal.invariant-levels
invariant-levels l = record {
  is_at : Descends l.height l.nodes l.need l._level l.node;
  looks : l.looks ≡ l._level + 1;
}
