-- Entries are twins iff their keys in a map compare equal.
use Rattle.krb_copy.proofs.Cited.{◌≡◌, ℕ, ◌+◌, ◌<◌, Bool, true, cond, List, [], ◌∷◌, ◌++◌, length, None, refl, sym, ap, subst, ◌∙◌, arith, ◌&&◌, ◌==◌, map, bytes_eq, name_text, EntryParts, are_twins, ClassKey, ◌/◌, join_with_byte, eqb-true, eq-eqb, IsClassKey, name_cmp, emptiness, kind_of, bytes_eq-Decides, Parts, ok_is, names_tie, hash_of}
use Rattle.std.specs.Ordering.{is_eq}
use Rattle.std.proofs.lemmas.Bool.Decides.{nat_tests}
use Rattle.krb_wire.specs.Names.{joined_components, quote, have_same_name}
use Rattle.krb_wire.specs.NameOf.{name_of}
use Rattle.krb_wire.proofs.NamesCompared.{same_name_is, and_both, both_and}
use Rattle.krb_wire.proofs.RoundTrip.{name_of-name_text}

-- the key that the fields of an entry have is that of the entry
pub key_of_fields : (x fields : EntryParts) (name : List ℕ) (k : ClassKey) → fields ≡ x → name ≡ name_text x.principal → (name ≡ name_text fields.principal → IsClassKey fields k) → IsClassKey x k
key_of_fields x fields name k is named key = subst (λ (e : EntryParts). (name ≡ name_text e.principal → IsClassKey e k)) is key named

-- ---- names as text

-- realm and components are those of the other name
abbrev SameParts : Parts → Parts → Type 0
SameParts p q = (p.realm ≡ q.realm) × (p.components ≡ q.components)

by_text : (p q : Parts) → 0 < length p.components → 0 < length q.components → name_text p ≡ name_text q → SameParts p q
by_text p q some others e =
    let same = ok_is (record p { name_type = 1 }) (record q { name_type = 1 }) (sym (name_of-name_text p None some) ∙ ap (λ (t : List ℕ). name_of t None) e ∙ name_of-name_text q None others) in
    (ap (λ (x : Parts). x.realm) same, ap (λ (x : Parts). x.components) same)

-- a name without components has the text of one with an empty component
one_empty : (p : Parts) → p.components ≡ [] → name_text (record p { components = [] ∷ [] }) ≡ name_text p
unfolding joined_components quote
one_empty p e = ap (λ (cs : List (List ℕ)). join_with_byte 47 (map quote cs) ++ 64 ∷ quote p.realm) (sym e)

-- 1 if a list is empty
abbrev bit_of : List (List ℕ) → ℕ
bit_of cs = cond (length cs == 0) 1 0

bit_some : (c : List ℕ) (cs : List (List ℕ)) → bit_of (c ∷ cs) ≡ 0
bit_some c cs = grind (arith, nat_tests)

by_emptiness : (p q : Parts) (a b : List (List ℕ)) → p.components ≡ a → q.components ≡ b → bit_of a ≡ bit_of b → name_text p ≡ name_text q → SameParts p q
by_emptiness p q [] [] ep eq n e =
    ((by_text (record p { components = [] ∷ [] }) (record q { components = [] ∷ [] }) (omega arith) (omega arith) (one_empty p ep ∙ e ∙ sym (one_empty q eq))).0, ep ∙ sym eq)
by_emptiness p q [] (b ∷ bs) ep eq n e = let none = bit_some b bs in absurd (omega (arith, n, none))
by_emptiness p q (a ∷ as') [] ep eq n e = let none = bit_some a as' in absurd (omega (arith, n, none))
by_emptiness p q (a ∷ as') (b ∷ bs) ep eq n e =
    by_text p q (omega (arith, ap length ep)) (omega (arith, ap length eq)) e

-- ---- comparisons

-- both or neither have no components, and the texts are equal, iff the names are the same
pub names_agree : (p q : Parts) → (emptiness p == emptiness q && bytes_eq (name_text p) (name_text q)) ≡ have_same_name p q
names_agree p q = same_name_is p q (emptiness p == emptiness q && bytes_eq (name_text p) (name_text q))
    (λ e. let both = and_both (emptiness p == emptiness q) (bytes_eq (name_text p) (name_text q)) e in
    by_emptiness p q p.components q.components refl refl (eqb-true _ _ both.0) ((bytes_eq-Decides (name_text p) (name_text q)).0 both.1))
    (λ realm components. both_and _ _ (eq-eqb _ _ (ap bit_of components))
    ((bytes_eq-Decides (name_text p) (name_text q)).1 (ap (λ (r : List ℕ). name_text (record p { realm = r })) realm ∙ ap (λ (cs : List (List ℕ)). name_text (record q { components = cs })) components)))

-- equal texts have equal hashes, which leave the kinds to be compared
drop_hash : (h g a b : ℕ) (t : Bool) → (t ≡ true → h ≡ g) → ((h + a == g + b) && t) ≡ ((a == b) && t)
drop_hash h g a b t same = grind (arith, nat_tests)

regroup : (k n t : Bool) → ((k && n) && t) ≡ ((n && t) && k)
regroup k n t = grind arith

-- entries are twins iff their keys compare equal
pub classes_agree : (x y : EntryParts) (k l : ClassKey) → IsClassKey x k → IsClassKey y l → is_eq (name_cmp k l) ≡ are_twins x y
classes_agree x y k l of_x of_y =
    let p = x.principal in
    let q = y.principal in
    let same_kind : Bool = x.version == y.version && x.enctype == y.enctype in
    let same_text : Bool = bytes_eq (name_text p) (name_text q) in
    sym (names_tie k l)
    ∙ rw (of_x.number, of_x.name, of_y.number, of_y.name)
    (drop_hash (hash_of (name_text p) / 32768) (hash_of (name_text q) / 32768) (kind_of x) (kind_of y) same_text
    (λ same. ap (λ (t : List ℕ). hash_of t / 32768) ((bytes_eq-Decides (name_text p) (name_text q)).0 same))
    ∙ ap (λ (b : Bool). b && same_text) (grind (arith, nat_tests))
    ∙ regroup same_kind (emptiness p == emptiness q) same_text
    ∙ ap (λ (b : Bool). b && same_kind) (names_agree p q))
