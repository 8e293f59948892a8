use Rattle.krb_ccache.proofs.Cited.{◌≡◌, ◌+◌, ◌<◌, ◌≤◌, false, length, ap, arith, is_some, Parts, fault_of, V4, credential, store_of, is_read_only, entry_of, InMemory}
use Rattle.krb_ccache.proofs.LastCredential.{append_full, append_fits, appendable_held}
use Rattle.krb_ccache.proofs.StoreChanges.{end_by, version_by}
use Rattle.krb_ccache.proofs.ccache.Ccache.check_setting.Goals as goal

pub returns-then-not-fits_within-clause-err : goal.returns-then-not-fits_within-clause-err
returns-then-not-fits_within-clause-err g c =
    let i = c.self.inside in
    let k = c.args.self.now.state in
    let writes : is_read_only k.version ≡ false = let a = c.is_read_only.ensures in let d = c.if-is_read_only.false in cc in
    let whole : is_some (fault_of (store_of k)) ≡ false = let a = c.fault.ensures in let b = c.is_some.ensures in let d = c.if-is_some.false in cc in
    let a = appendable_held c.deref.ensures.value c.bytes_fit.ensures c.self.invariant.0 (ap (λ (m : InMemory). m.state) c.self.view_is) (end_by k whole) (version_by k.version writes) in
    let owner = ap (λ (p : Parts). length (credential V4 (entry_of p c.args.setting.now))) c.default_principal.ensures in
    let long : i.layout.limit < i.layout.places.end + length (credential V4 (entry_of k.principal c.args.setting.now)) = let no = c.fits_within.ensures.no c.if-not-fits_within.true in omega (arith, i.image.ok.0, no, owner, c.len.ensures, a.1) in
    rw (writes, whole) (append_full _ _ _ a.0 long)

pub returns-clause-ok : goal.returns-clause-ok
returns-clause-ok g c =
    let i = c.self.inside in
    let k = c.args.self.now.state in
    let writes : is_read_only k.version ≡ false = let a = c.is_read_only.ensures in let d = c.if-is_read_only.false in cc in
    let whole : is_some (fault_of (store_of k)) ≡ false = let a = c.fault.ensures in let b = c.is_some.ensures in let d = c.if-is_some.false in cc in
    let a = appendable_held c.deref.ensures.value c.bytes_fit.ensures c.self.invariant.0 (ap (λ (m : InMemory). m.state) c.self.view_is) (end_by k whole) (version_by k.version writes) in
    let owner = ap (λ (p : Parts). length (credential V4 (entry_of p c.args.setting.now))) c.default_principal.ensures in
    let short : i.layout.places.end + length (credential V4 (entry_of k.principal c.args.setting.now)) ≤ i.layout.limit = let yes = c.fits_within.ensures.yes c.if-not-fits_within.false in omega (arith, i.image.ok.0, yes, owner, c.self.invariant.0.within, c.len.ensures, a.1) in
    rw (writes, whole) (append_fits _ _ _ a.0 short)
