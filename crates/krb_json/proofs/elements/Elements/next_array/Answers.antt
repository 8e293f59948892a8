use Rattle.krb_json.proofs.Cited.{[], ◌++◌, ◌∷◌, ap, subst, ◌∙◌, List, Token, begin_array, end_array, key, on_ok_weaker, Begins}
use Rattle.krb_json.proofs.elements.Elements.next_array.Goals as goal

pub returns : goal.returns
returns g c =
    let tokens = ap (λ (l : List Token). l ++ key c.args.name.now ∷ begin_array ∷ []) (c.in_ok-end_array.ensures ∙ ap (λ (l : List Token). l ++ end_array ∷ []) c.requires) in
    on_ok_weaker c.begin_array.result (λ h. subst (Begins c.args.self.now.gathered.items _) tokens h) c.begin_array.ensures
