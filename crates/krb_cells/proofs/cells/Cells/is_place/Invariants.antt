use Rattle.krb_cells.proofs.Cited.{◌≡◌, length, is_place}
use Rattle.krb_cells.proofs.cells.Cells.is_place.Given as goal

-- the test on the rest gives the same as on all cells
abbrev pub invariant-loop-rest : goal.invariant-loop-rest
invariant-loop-rest g l = is_place l.rest l.place ≡ is_place l.fn.self l.place

abbrev pub decreases-loop-rest : goal.decreases-loop-rest
decreases-loop-rest g l = length l.rest.cells
