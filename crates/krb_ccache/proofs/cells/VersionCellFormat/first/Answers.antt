use Rattle.krb_ccache.proofs.Cited.{◌∙◌, List, ℕ, ap, map, arith, Contents, CredParts, store_cell, live_by}
use Rattle.krb_ccache.proofs.CellLemmas.{read_left, read_none, cell_first}
use Rattle.krb_ccache.proofs.cells.VersionCellFormat.first.Goals as goal

pub returns-in_err-credential-clause-none : goal.returns-in_err-credential-clause-none
returns-in_err-credential-clause-none c =
    rw c.from_residual.ensures (ap (λ (k : Contents CredParts (List ℕ)). map (store_cell c.args.self) k.cells) (read_none c.args.self c.args.bytes.now c.bytes_fit.ensures c.in_err-credential.ensures))

pub overflow_sub-width : goal.overflow_sub-width
overflow_sub-width c = search (arith, read_left)

pub returns-clause-some : goal.returns-clause-some
returns-clause-some c =
    cell_first c.args.self c.args.bytes.now _ c.in_ok-credential.after.now _ c.bytes_fit.ensures c.in_ok-credential.ensures (c.live_text.ensures ∙ ap (live_by _) c.split_at.ensures.front)
