use Rattle.std.proofs.lemmas.Result.{err_from_is_err_and}
use Rattle.krb_text.proofs.Passing.{gathers_prints, gathers_fails}
use Rattle.krb_keytab_text.proofs.listing.list_keytab.Goals as goal

pub returns-in_err-list_entries : goal.returns-in_err-list_entries
returns-in_err-list_entries g c =
    let p = err_from_is_err_and c.from_residual-in_err-list_entries.result c.from_residual-in_err-list_entries.ensures.1 in
    rw (p.1, p.2) (gathers_fails _ _ _ _ _ _ _ _ _ c.in_ok-gathered.ensures c.in_ok-append_heading.ensures c.in_err-list_entries.ensures)

pub returns : goal.returns
returns g c =
    gathers_prints _ _ _ _ _ _ _ _ _ _ _ c.in_ok-gathered.ensures c.in_ok-append_heading.ensures c.in_ok-list_entries.ensures (rw c.fault.ensures at c.send_last.ensures)
