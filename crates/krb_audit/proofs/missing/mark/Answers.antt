use Rattle.krb_audit.proofs.Cited.{◌≡◌, ◌∙◌, List, ℕ, Bool, true, ◌&&◌, ◌||◌, ap, ap₂, bytes_eq, subst, rules, arith, name_text, AreMarked, is_among, nat_list_eq_equiv}
use Rattle.krb_audit.proofs.missing.mark.Goals as goal

marked_now : (a m b : Bool) → b ≡ true → (a && (m || b)) ≡ a
marked_now a m b is = grind (arith, is)

pub returns : goal.returns
returns g c = λ names marked are.
    let printed : c.deref.result.now ≡ name_text c.args.name.now = search rules in
    let again : c.deref-2.result.now ≡ name_text c.args.name.now = search rules in
    let marks = c.mark.ensures names marked are in
    let same = ap₂ bytes_eq printed again ∙ nat_list_eq_equiv.refl (name_text c.args.name.now) in (
      c.is_marked.ensures names _ marks ∙ marked_now _ _ _ same ∙ ap (is_among names) again,
      subst (λ (name : List ℕ). AreMarked (λ text. marked text || bytes_eq name text) names c.mark.new.self) printed marks,
    )
