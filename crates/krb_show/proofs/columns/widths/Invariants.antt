use Rattle.krb_show.proofs.Cited.{◌≡◌, ◌∷◌, ◌-◌, length, map, widths_to}
use Rattle.krb_show.proofs.columns.widths.Given as goal

-- the widths so far are those of the columns before this one
abbrev pub invariant-columns : goal.invariant-columns
invariant-columns g l = l.all.items ≡ widths_to (length l.titles - 1) l.column (map (λ title. title.now) l.titles ∷ g.T.Rows.rows l.rows)
