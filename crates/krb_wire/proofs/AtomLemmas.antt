-- The parts of a name's text, atom by atom.
use Rattle.krb_wire.proofs.Cited.{◌≡◌, ℕ, List, [], ◌∷◌, ◌++◌, map, Option, Some, None, refl, sym, ap, ◌∙◌, append_assoc, map-append, filter_map, slice_split, onto_first, Atom, Byte, Slash, At, Lone, items_of, byte_of, is_slash, before_at, after_at, component_fault, realm_fault, faults_of, first_fault, components_of, realm_of, name_or_fault, first_component, after_first}
use Rattle.std.specs.Prelude.{unwrap_or, option_map, IsOk, Ok, Vec}
use Rattle.std.specs.Vec.{vec_items}
use Rattle.std.specs.Option.{option_or, option_map_or}
use Rattle.krb_wire.specs.declared.name_fault.NameFault.{NameFault}

-- prepending an atom to the first part, and taking the bytes of each part
map-onto_first : (a : Atom) (ps : List (List Atom)) → map (map byte_of) (onto_first a ps) ≡ onto_first (byte_of a) (map (map byte_of) ps)
map-onto_first a [] = refl
map-onto_first a (p ∷ ps) = refl

-- the components are the first one and those after its `/`
components_of-first : (text : List Atom) → components_of text ≡ first_component text ∷ option_map_or components_of (after_first text) []
components_of-first [] = refl
components_of-first (Byte b ∷ rest) = map-onto_first (Byte b) (slice_split is_slash (before_at rest)) ∙ ap (onto_first b) (components_of-first rest)
components_of-first (Slash ∷ rest) = refl
components_of-first (At ∷ rest) = refl
components_of-first (Lone ∷ rest) = map-onto_first Lone (slice_split is_slash (before_at rest)) ∙ ap (onto_first 92) (components_of-first rest)

-- a realm without a fault is one component
first_component-realm : (text : List Atom) → filter_map realm_fault text ≡ [] → first_component text ≡ map byte_of text
first_component-realm [] e = refl
first_component-realm (Byte b ∷ rest) e = ap (λ (bs : List ℕ). b ∷ bs) (first_component-realm rest e)
first_component-realm (Slash ∷ rest) e = absurd cc
first_component-realm (At ∷ rest) e = absurd cc
first_component-realm (Lone ∷ rest) e = absurd cc

-- if there is no leftmost fault, there is no fault
none_left : (a b : List NameFault) → first_fault (a ++ b) ≡ None → b ≡ []
none_left [] [] e = refl
none_left [] (y ∷ b) e = absurd cc
none_left (x ∷ a) b e = absurd cc

-- if a text is a name, there is no fault and there is a realm
pub named : (fault : Option NameFault) (realm : Option (List ℕ)) (components : List (List ℕ)) → IsOk (name_or_fault fault realm components) → (fault ≡ None) × ((r : List ℕ) × (realm ≡ Some r))
named (Some f) realm components h = absurd cc
named None None components h = absurd cc
named None (Some r) components h = (refl, (r, refl))

-- the realm is what is read after the `@`
pub realm_of-first : (text realm : List Atom) (default_realm : Option (List ℕ)) → first_fault (faults_of text) ≡ None → Some realm ≡ after_at text → realm_of text default_realm ≡ Some (first_component realm)
realm_of-first text realm default_realm e is_realm =
    let sound : filter_map realm_fault (unwrap_or (after_at text) []) ≡ [] = none_left (filter_map component_fault (before_at text)) _ e in
    let here : filter_map realm_fault realm ≡ [] = ap (λ (o : Option (List Atom)). filter_map realm_fault (unwrap_or o [])) is_realm ∙ sound in
    ap (λ (o : Option (List Atom)). option_or (option_map (map byte_of) o) default_realm) (sym is_realm) ∙ ap (λ (bs : List ℕ). Some bs) (sym (first_component-realm realm here))

-- without an `@` and a default realm there is no realm
pub no_realm : (text : List Atom) (default_realm : Option (List ℕ)) → None ≡ after_at text → default_realm ≡ None → realm_of text default_realm ≡ None
no_realm text default_realm e none = rw (← e) none

-- the parts that were read are the name
pub named-is : (fault : Option NameFault) (realm : Option (List ℕ)) (components : List (List ℕ)) (r : List ℕ) (cs : List (List ℕ)) → IsOk (name_or_fault fault realm components) → realm ≡ Some r → cs ≡ components
    → name_or_fault fault realm components ≡ Ok (record { name_type = 1; realm = r; components = cs })
named-is fault realm components r cs h is_realm is_components = rw ((named fault realm components h).0, is_realm, sym is_components) refl

-- one more component is read, and those after its `/` are left
pub components_step : {Z : Type 0} (old new : List (Vec ℕ Z)) (v : Vec ℕ Z) (text : List Atom) (next : Option (List Atom)) (whole : List (List ℕ)) → new ≡ old ++ v ∷ [] → v.items ≡ first_component text → next ≡ after_first text
    → items_of old ++ components_of text ≡ whole → items_of new ++ option_map_or components_of next [] ≡ whole
components_step old new v text next whole is_new is_front is_next e =
    let others : List (List ℕ) = option_map_or components_of next [] in
    ap (λ (vs : List (Vec ℕ _)). items_of vs ++ others) is_new ∙ ap (λ (l : List (List ℕ)). l ++ others) (map-append vec_items old (v ∷ []))
    ∙ append_assoc (items_of old) (v.items ∷ []) others ∙ ap (λ (l : List ℕ). items_of old ++ (l ∷ others)) is_front
    ∙ ap (λ (o : Option (List Atom)). items_of old ++ (first_component text ∷ option_map_or components_of o [])) is_next
    ∙ ap (λ (l : List (List ℕ)). items_of old ++ l) (sym (components_of-first text)) ∙ e
