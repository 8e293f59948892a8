use Rattle.krb_audit.proofs.ForAnswers.{◌≡◌, ◌+◌, length, sum_by, size, holes, added}
use Rattle.krb_audit.proofs.counts.count_holes.Given as goal

-- the holes so far, and those that are still to come
abbrev pub invariant-cells : goal.invariant-cells
invariant-cells g l = record {
  count : l.holes.count + length (holes l.cell-iterator.contents.cells) ≡ length (holes l.keytab.state.contents.cells);
  size : added l.holes.size (holes l.cell-iterator.contents.cells) ≡ sum_by size (holes l.keytab.state.contents.cells);
}
