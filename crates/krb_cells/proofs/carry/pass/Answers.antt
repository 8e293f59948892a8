use Rattle.krb_cells.proofs.Cited.{◌∙◌, sym, refl, arith, cell_of}
use Rattle.krb_cells.proofs.Given.{next_passed, passes, copied_some}
use Rattle.krb_cells.proofs.carry.pass.Goals as goal

pub returns-then-is_some-clause-some : goal.returns-then-is_some-clause-some
returns-then-is_some-clause-some g c =
    let some = copied_some c.in_ok-cell.cell.live ∙ sym c.is_some.ensures ∙ c.if-is_some.true in
    passes (g.F.CellFormat.cells c.args.front) c.args.bytes.now (cell_of c.in_ok-cell.cell) c.args.new.now c.next.new.self _ c.in_ok-cell.ensures.some some (next_passed c.args.new.now c.next.new.self c.next.result c.next.ensures.steps)

pub returns-else-is_some-clause-some : goal.returns-else-is_some-clause-some
returns-else-is_some-clause-some g c =
    let none = copied_some c.in_ok-cell.cell.live ∙ sym c.is_some.ensures ∙ c.if-is_some.false in
    passes (g.F.CellFormat.cells c.args.front) c.args.bytes.now (cell_of c.in_ok-cell.cell) c.args.new.now c.args.new.now _ c.in_ok-cell.ensures.some none (omega arith, refl)
