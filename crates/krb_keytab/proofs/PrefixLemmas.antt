-- The spelling of a name up to its name type is a prefix of each entry of the name.
use Rattle.krb_keytab.proofs.Cited.{◌≡◌, ℕ, ◌+◌, ◌-◌, Bool, true, false, List, [], ◌∷◌, ◌++◌, length, take, drop, Option, Some, refl, sym, ap, subst, ◌∙◌, append_assoc, length-append, arith, nat_eq, w16, flat_map, splice, starts_with, false_from_ne_true, true≢false, Decides-eqb, take_at, KtFormat, Parts, order_of, digits, data16, count_field, kt_principal, name_type_field, have_same_name, IsBytes, and_both, EntryParts, entry_at, PlacedEntry, IsFoundAmong, IsPrefix}
use Rattle.std.proofs.lemmas.Slice.Eq.{bytes_eq-Decides, slice_eq-Decides, starts_is}
use Rattle.krb_keytab.proofs.EntryLemmas.{entry_spelled}
use Rattle.krb_keytab.proofs.LookUpLemmas.{other_name}

-- the spelling of a name up to its name type
abbrev untyped : KtFormat → Parts → List ℕ
untyped f p =
    digits (order_of f) w16 (count_field f (length p.components))
    ++ (data16 (order_of f) p.realm ++ flat_map (data16 (order_of f)) p.components)

-- it comes first in any bytes that begin with the name
untyped_first : (f : KtFormat) (p : Parts) (rest : List ℕ) → kt_principal f p ++ rest ≡ untyped f p ++ (name_type_field f p.name_type ++ rest)
untyped_first f p rest = simp append_assoc

-- it is the same for names that are the same
same_untyped : (f : KtFormat) (p q : Parts) → have_same_name p q ≡ true → untyped f p ≡ untyped f q
same_untyped f p q same = search (arith, and_both, bytes_eq-Decides, slice_eq-Decides)

-- so each entry of the name begins with it
untyped_is_prefix : (f : KtFormat) (name : Parts) → IsPrefix f name (untyped f name)
untyped_is_prefix f name e bytes s has =
    let p = s.fields.principal in
    let same : untyped f name ≡ untyped f p = same_untyped f name p (ap (λ (x : EntryParts). have_same_name name x.principal) (sym s.entry) ∙ has) in
    let begins = (starts_is Decides-eqb bytes (untyped f p) _ refl).1 _ (s.parts ∙ append_assoc (kt_principal f p) _ s.tail ∙ untyped_first f p _) in
    subst (λ (u : List ℕ). starts_with nat_eq bytes u ≡ true) (sym same) begins

-- it is what is left of the written name without its name type
pub cut_is_prefix : (f : KtFormat) (name : Parts) (old : List ℕ) (end typed : ℕ) → end ≡ 0 + length (kt_principal f name) → typed ≡ length (name_type_field f name.name_type) → IsPrefix f name (take (end - typed) (splice old 0 end (kt_principal f name)))
cut_is_prefix f name old end typed is_end is_typed =
    let d = name_type_field f name.name_type in
    let len : length (untyped f name) ≡ end - typed = omega (arith, ap length (untyped_first f name []), length-append (untyped f name) (d ++ []), length-append (kt_principal f name) [], length-append d []) in
    let cut = ap (take (end - typed)) (untyped_first f name (drop end old)) ∙ take_at (untyped f name) (d ++ drop end old) (end - typed) len in
    subst (IsPrefix f name) (sym cut) (untyped_is_prefix f name)

-- a record without the prefix has another name, and changes nothing
pub passed_over : (f : KtFormat) (name : Parts) (prefix bytes : List ℕ) (kvno enctype place : ℕ) (named : Bool) (best : Option PlacedEntry) → IsPrefix f name prefix → IsBytes bytes → starts_with nat_eq bytes prefix ≡ false
    → (xs : List PlacedEntry) (e : EntryParts) → entry_at f bytes ≡ Some e → IsFoundAmong name kvno enctype xs named best → IsFoundAmong name kvno enctype (xs ++ (place, e) ∷ []) named best
passed_over f name prefix bytes kvno enctype place named best is fits not xs e read =
    let other : have_same_name name e.principal ≡ false = false_from_ne_true _ (λ same. true≢false (sym (is e bytes (entry_spelled f bytes e fits read) same) ∙ not)) in
    other_name name kvno enctype xs (place, e) named best (sym other)
