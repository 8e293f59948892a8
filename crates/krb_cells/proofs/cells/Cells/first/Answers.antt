use Rattle.krb_cells.proofs.Cited.{ap, Store}
use Rattle.krb_cells.proofs.Cuts.{sound}
use Rattle.krb_cells.proofs.cells.Cells.first.Goals as goal

pub returns-clause-sound : goal.returns-clause-sound
returns-clause-sound g c =
    let i = c.self.inside in
    sound (g.F.CellFormat.cells i.front) i.place i.bytes.now c.args.self.now c.self.invariant (ap (λ (s : Store). s.cells) c.self.view_is)
