use Rattle.krb_match.proofs.ForAnswers.{◌∙◌, refl, sym, ap, ℕ, true, List, None, Option, Some, option_map, find, first_of, fitting_of, named, opener, slice_get, opener_is}
use Rattle.krb_match.proofs.keys.Keys.opener.Goals as goal

pub returns-in-Some : goal.returns-in-Some
returns-in-Some g c = λ xs p keys number.
    let n = c.in_ok-etype.etype in
    let first = c.in-Some.ensures.value ∙ ap (λ (l : List (ℕ × ℕ)). slice_get l 0) c.firsts.ensures in
    opener_is xs p c.args.number c.args.self.now keys number c.args.asked n c.wanted-wanted.result (Some c.in-Some.first.now) (option_map first_of (find (λ x. true) (fitting_of c.args.asked (Some n) (named p xs)))) (c.wanted-wanted.ensures xs p keys number) first refl
    ∙ ap (λ (e : Option ℕ). option_map first_of (opener c.args.asked e (named p xs))) (sym c.in_ok-etype.was)

pub returns-in-None : goal.returns-in-None
returns-in-None g c = λ xs p keys number.
    let n = c.in_ok-etype.etype in
    let first = c.in-None.ensures.value ∙ ap (λ (l : List (ℕ × ℕ)). slice_get l 0) c.firsts.ensures in
    opener_is xs p c.args.number c.args.self.now keys number c.args.asked n c.wanted-wanted.result None c.next.result (c.wanted-wanted.ensures xs p keys number) first (c.next.ensures (fitting_of c.args.asked (Some n) (named p xs)) (c.fitting.ensures xs p keys number))
    ∙ ap (λ (e : Option ℕ). option_map first_of (opener c.args.asked e (named p xs))) (sym c.in_ok-etype.was)
