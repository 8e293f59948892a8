use Rattle.krb_names.proofs.Cited.{◌≡◌, ◌∙◌, sym, ap, arith, List, ℕ, ◌+◌, ◌<◌, ◌++◌, ◌∷◌, ◌==◌, length, take, take_all}
use Rattle.std.proofs.Common.{drop, get_or-take, length-take, slice_index, take-append-drop, le_refl}
use Rattle.krb_names.specs.Patterns.{has_star, star}
use Rattle.krb_names.proofs.PatternLemmas.{from_star, plain_before}
use Rattle.krb_names.proofs.patterns.split_at_star.Goals as goal

pub returns-in_default : goal.returns-in_default
returns-in_default c =
    let first = c.front.result.now in
    ap has_star (sym c.front.ensures ∙ sym (take_all _ first (le_refl (length first)))) ∙ plain_before (length first) first (λ k before within is. c.in_default.ensures k (omega arith) within is)

pub returns : goal.returns
returns c =
    let pattern = c.args.pattern.now in
    let most = length c.args.bytes.now + 1 in
    let found = c.in-Some.ensures in
    let end = c.in-Some.end in
    let high : end < most = omega (arith, found.0.high, ap length c.front.ensures, length-take most pattern) in
    let within : end < length pattern = omega (arith, found.0.high, ap length c.front.ensures, length-take most pattern) in
    let at : (k : ℕ) → k < most → slice_index c.front.result.now k ≡ slice_index pattern k = λ k below. ap (λ (l : List ℕ). slice_index l k) c.front.ensures ∙ get_or-take most pattern k 0 below in
    let parts : pattern ≡ take end pattern ++ star ∷ drop 1 (drop end pattern) = sym (take-append-drop end pattern) ∙ ap (λ (l : List ℕ). take end pattern ++ l) (from_star end pattern within (ap (λ (n : ℕ). n == star) (sym (at end high)) ∙ found.1)) in
    rw (c.split_at.ensures.front, c.split_at-2.ensures.back, c.split_at.ensures.back)
    (parts, plain_before end pattern (λ k before within is. found.0.before k (omega arith) before (ap (λ (n : ℕ). n == star) (at k (omega (arith, before, high))) ∙ is)))
