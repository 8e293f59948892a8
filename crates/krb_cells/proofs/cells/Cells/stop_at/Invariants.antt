use Rattle.krb_cells.proofs.Cited.{◌≡◌, ◌≤◌, length, stop_at}
use Rattle.krb_cells.proofs.cells.Cells.stop_at.Given as goal

-- the stop of the rest is that of all cells, and the rest begins at or after the place
abbrev pub invariant-loop-at : goal.invariant-loop-at
invariant-loop-at g l = record {
  same : stop_at l.rest l.place ≡ stop_at l.fn.self l.place;
  beyond : l.place ≤ l.rest.first;
}

abbrev pub decreases-loop-at : goal.decreases-loop-at
decreases-loop-at g l = length l.rest.cells
