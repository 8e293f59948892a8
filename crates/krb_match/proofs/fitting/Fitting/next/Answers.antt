use Rattle.krb_match.proofs.Cited.{◌∙◌, ap₂, earlier, is_new}
use Rattle.krb_match.proofs.fitting.Fitting.next.Goals as goal

pub returns : goal.returns
returns c = λ xs united. c.earlier.ensures ∙ ap₂ earlier c.first_new-3.ensures (c.earlier-later.ensures ∙ ap₂ earlier c.first_new.ensures c.first_new-2.ensures) ∙ united (is_new c.args.found.now)
