use Rattle.krb_cells.proofs.Cited.{◌-◌, between}
use Rattle.krb_cells.proofs.Given.{IsGivenIn}
use Rattle.krb_cells.proofs.carry.give_places.Given as goal

-- the cells before `at` hold the places that they go to
abbrev pub invariant-cells : goal.invariant-cells
invariant-cells g l = IsGivenIn (g.F.CellFormat.cells l.front) (g.F.CellFormat.cells l.front (between l.fn.first l.end l.fn.image)) l.fn.new l.fn.first l.end l.image l.new l.at l.to

abbrev pub decreases-cells : goal.decreases-cells
decreases-cells g l = l.end - l.at
