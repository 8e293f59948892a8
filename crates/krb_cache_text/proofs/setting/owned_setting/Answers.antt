use Rattle.krb_cache_text.proofs.Cited.{Err, subst, option_copied, err_from_is_err_and, made_refused}
use Rattle.krb_ccache.specs.SetConfig.{SettingParts}
use Rattle.krb_text.specs.LineFault.{Reads}
use Rattle.krb_cache_text.specs.Script.{checked, checked_setting}
use Rattle.krb_cache_text.proofs.setting.owned_setting.Goals as goal

pub returns-in_err-check : goal.returns-in_err-check
returns-in_err-check g c =
    let p = err_from_is_err_and c.from_residual.result c.from_residual.ensures.1 in
    let w = c.setting.inside in
    let s : SettingParts = record { key = w.key.now; principal = option_copied w.principal; value = w.value.now } in
    let e = c.in_err-check.field-0.0 in
    let Q : SettingParts → Type 0 = λ x. Reads {T = SettingParts} (λ y. y) (checked_setting x) (Err e) in
    rw (p.1, p.2) (subst Q c.setting.view_is (made_refused (λ done. s) (checked s.principal) e c.in_err-check.ensures))
