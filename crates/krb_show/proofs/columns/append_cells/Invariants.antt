use Rattle.krb_show.proofs.Cited.{◌≡◌, ◌++◌, drop, cells_behind}
use Rattle.krb_show.proofs.columns.append_cells.Given as goal

-- the cells so far, and those to come, are all
abbrev pub invariant-columns : goal.invariant-columns
invariant-columns g l = l.out.items ++ cells_behind l.blanks (drop l.column l.widths) (drop l.column (g.R.Row.cells l.row)) ≡ l.fn.out.items ++ cells_behind 0 l.widths (g.R.Row.cells l.row)
