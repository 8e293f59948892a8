use Rattle.krb_cache_text.proofs.Cited.{err_from_is_err_and, gathers_prints, gathers_fails}
use Rattle.krb_cache_text.proofs.listing.list_cache.Goals as goal

pub returns-in_err-list_credentials : goal.returns-in_err-list_credentials
returns-in_err-list_credentials g c =
    let p = err_from_is_err_and c.from_residual-in_err-list_credentials.result c.from_residual-in_err-list_credentials.ensures.1 in
    let heading = rw c.default_principal.ensures at c.in_ok-append_heading.ensures in
    rw (p.1, p.2) (gathers_fails _ _ _ _ _ _ _ _ _ c.in_ok-gathered.ensures heading c.in_err-list_credentials.ensures)

pub returns : goal.returns
returns g c =
    let heading = rw c.default_principal.ensures at c.in_ok-append_heading.ensures in
    gathers_prints _ _ _ _ _ _ _ _ _ _ _ c.in_ok-gathered.ensures heading c.in_ok-list_credentials.ensures (rw c.fault.ensures at c.send_last.ensures)
