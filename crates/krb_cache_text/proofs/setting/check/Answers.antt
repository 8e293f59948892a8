use Rattle.krb_cache_text.proofs.Cited.{err_from_is_err_and, made_refused}
use Rattle.krb_text.specs.Word.{name_word}
use Rattle.krb_cache_text.proofs.setting.check.Goals as goal

pub returns-in_err-_name-in-Some : goal.returns-in_err-_name-in-Some
returns-in_err-_name-in-Some g c =
    let p = err_from_is_err_and c.from_residual.result c.from_residual.ensures.1 in
    rw (c.in-Some.is, p.1, p.2) (made_refused (λ name. tt) (name_word c.in-Some.text.now) _ c.in_err-_name-in-Some.ensures)
