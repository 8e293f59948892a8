use Rattle.std.proofs.Common.{rules}
use Rattle.krb_show.proofs.Cited.{[], arith, drop_all, drop_more, inl, inr}
use Rattle.krb_show.proofs.Tables.{all_put, put_cell}
use Rattle.krb_show.proofs.columns.append_cells.Goals as goal

-- the next cell was appended
pub columns-preserved : goal.columns-preserved
columns-preserved g c =
    let ws = c.args.widths.now in
    let cs = g.R.Row.cells c.args.row.now in
    let i = c.columns.column in
    put_cell _ _ _ _ _ _ _ _ _ _ _ (drop_more ws i 0 (omega arith)) (drop_more cs i [] (omega arith)) c.in_ok-len.ensures.text (search rules) c.columns.invariant

-- no cell is left
pub returns : goal.returns
returns g c = all_put _ _ _ _ _ (inl (drop_all c.columns.column (g.R.Row.cells c.args.row.now) (omega arith))) c.columns.invariant

-- no column is left
pub returns-then-column-widths : goal.returns-then-column-widths
returns-then-column-widths g c = all_put _ _ _ _ _ (inr (drop_all c.columns.column c.args.widths.now (omega arith))) c.columns.invariant
