use Rattle.krb_show.proofs.Cited.{◌∷◌, ◌-◌, length, map}
use Rattle.krb_show.proofs.Tables.{more_columns}
use Rattle.krb_show.proofs.columns.widths.Goals as goal

-- the width of the next column is the last
pub columns-preserved : goal.columns-preserved
columns-preserved g c =
    more_columns (length c.args.titles.now - 1) c.columns.column _ (map (λ title. title.now) c.args.titles.now ∷ g.T.Rows.rows c.args.rows.now) _ _ c.in_ok-push.ensures.items c.in_ok-padded_width.ensures c.columns.invariant
