use Rattle.krb_cells.proofs.Cuts.{ends}
use Rattle.krb_cells.proofs.cells.Cells.end.Goals as goal

pub returns-clause-end : goal.returns-clause-end
returns-clause-end g c = let i = c.self.inside in ends (g.F.CellFormat.cells i.front) i.place i.bytes.now i.fault c.args.self.now c.self.invariant c.self.view_is
