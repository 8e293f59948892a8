use Rattle.krb_match.proofs.ForAnswers.{sym, arith, ◌∙◌, have_same_name, none_named}
use Rattle.krb_match.proofs.keys.Keys.judge.Goals as goal

pub returns-in-Some : goal.returns-in-Some
returns-in-Some g c = λ xs p keys key. c.judge_number.ensures xs p keys (c.in-Some.ensures p key)

pub returns-in-None : goal.returns-in-None
returns-in-None g c = λ xs p keys key.
    let number = c.in-None.ensures p key in
    let none = none_named (λ x. have_same_name p x.1.principal) xs (sym (keys.names p) ∙ sym number.found) in
    grind (arith, none)
