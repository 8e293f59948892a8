use Rattle.std.proofs.Common.{arith}
use Rattle.krb_cells.proofs.Cuts.{cut_held, holds_from, is_from}
use Rattle.krb_cells.proofs.cells.Cells.from.Goals as goal

pub overflow_sub-place : goal.overflow_sub-place
overflow_sub-place g c =
    let i = c.self.inside in
    (cut_held (g.F.CellFormat.cells i.front) i.place i.bytes.now i.fault c.args.self c.args.place c.self.invariant c.self.view_is c.requires).ahead

pub split_at-requires : goal.split_at-requires
split_at-requires g c =
    let i = c.self.inside in
    let k = cut_held (g.F.CellFormat.cells i.front) i.place i.bytes.now i.fault c.args.self c.args.place c.self.invariant c.self.view_is c.requires in
    omega (arith, k.within, k.ahead)

pub invariant_of-result : goal.invariant_of-result
invariant_of-result g c =
    let i = c.self.inside in
    let k = cut_held (g.F.CellFormat.cells i.front) i.place i.bytes.now i.fault c.args.self c.args.place c.self.invariant c.self.view_is c.requires in
    rw c.split_at.ensures.back (holds_from (g.F.CellFormat.cells i.front) i.place i.bytes.now c.args.place c.self.invariant k)

pub returns : goal.returns
returns g c =
    let i = c.self.inside in
    let k = cut_held (g.F.CellFormat.cells i.front) i.place i.bytes.now i.fault c.args.self c.args.place c.self.invariant c.self.view_is c.requires in
    rw c.split_at.ensures.back (is_from (g.F.CellFormat.cells i.front) i.place i.bytes.now i.fault c.args.self c.args.place c.self.invariant c.self.view_is k)
