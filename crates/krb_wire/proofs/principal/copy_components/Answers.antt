use Rattle.std.specs.Prelude.{Vec}
use Rattle.std.specs.Vec.{vec_items}
use Rattle.krb_wire.proofs.Cited.{◌≡◌, ℕ, List, [], ◌∷◌, ◌++◌, sym, ap, ◌∙◌, append_assoc, map-append, items_of}
use Rattle.krb_wire.proofs.principal.copy_components.Goals as goal

copied : {Z : Type 0} (old new : List (Vec ℕ Z)) (v : Vec ℕ Z) (first : List ℕ) (rest all whole : List (List ℕ)) → new ≡ old ++ v ∷ [] → v.items ≡ first → all ≡ first ∷ rest → items_of old ++ all ≡ whole → items_of new ++ rest ≡ whole
copied {Z} old new v first rest all whole is_new is_first are e =
    ap (λ (vs : List (Vec ℕ Z)). items_of vs ++ rest) is_new ∙ ap (λ (l : List (List ℕ)). l ++ rest) (map-append vec_items old (v ∷ []))
    ∙ append_assoc (items_of old) (v.items ∷ []) rest ∙ ap (λ (l : List ℕ). items_of old ++ (l ∷ rest)) is_first
    ∙ ap (λ (l : List (List ℕ)). items_of old ++ l) (sym are) ∙ e

pub loop-component-preserved : goal.loop-component-preserved
loop-component-preserved g c = copied c.loop-component.all.items c.push.new.self.items c.in_ok-from_slice.field-0 c.in-Some.component.now c.next.new.self c.loop-component.component-iterator _ c.in_ok-push.ensures.items c.in_ok-from_slice.ensures.items c.in-Some.ensures.steps c.loop-component.invariant
