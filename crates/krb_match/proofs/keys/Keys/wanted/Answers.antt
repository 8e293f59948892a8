use Rattle.krb_match.proofs.ForAnswers.{◌∙◌, sym, ap, ℕ, Option, filter, ◌==◌, named, wanted, wanted_is}
use Rattle.krb_match.proofs.keys.Keys.wanted.Goals as goal

pub returns-in-None : goal.returns-in-None
returns-in-None g c = λ xs p keys number.
    c.newest.ensures ∙ wanted_is xs p c.args.number c.args.self.now keys number c.args.etype
    ∙ ap (λ (v : Option ℕ). wanted v (filter (λ x. x.1.enctype == c.args.etype) (named p xs))) (sym c.in-None.is)
