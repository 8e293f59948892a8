-- Patterns without a star.
use Rattle.krb_names.proofs.Cited.{◌≡◌, ◌∙◌, sym, ap, refl, arith, ℕ, ◌<◌, Bool, true, false, List, [], ◌∷◌, map, length, Ok, Option, Some, None, ◌||◌, ◌&&◌, ◌==◌, list_any, bytes_eq, bytes_eq-Decides, eqb-true, length-map}
use Rattle.std.specs.List.{slice_split, onto_first}
use Rattle.std.specs.Option.{option_or}
use Rattle.std.specs.Cmp.Lexicographic.{pointwise}
use Rattle.std.proofs.lemmas.Bool.{or_parts, or_from}
use Rattle.std.proofs.lemmas.List.Splits.{length-slice_split}
use Rattle.std.proofs.Common.{option_map}
use Rattle.krb_wire.proofs.NamesCompared.{same_name_is}
use Rattle.krb_wire.proofs.RoundTrip.{name_of-name_text}
use Rattle.krb_wire.specs.Spelling.{Parts}
use Rattle.krb_wire.specs.declared.atom.Atom.{Atom}
use Rattle.krb_wire.specs.declared.atom.Atom.TheVariants.{Byte, Slash, At, Lone}
use Rattle.krb_wire.specs.declared.name_fault.NameFault.{NameFault}
use Rattle.krb_wire.specs.Atoms.{after_at, atoms, atoms_after, before_at, byte_of, is_slash}
use Rattle.krb_wire.specs.Names.{have_same_name, name_text}
use Rattle.krb_wire.specs.NameOf.{components_of, faults_of, first_fault, name_of, name_or_fault, realm_of}
use Rattle.krb_names.specs.Laws.{HasComponents, IsNameWithoutStar}
use Rattle.krb_names.specs.Patterns.{fits, fits_bytes, has_star, star, starred}
use Rattle.krb_names.proofs.PatternLemmas.{fits_plain}
use Rattle.krb_names.proofs.StarredLemmas.{same_text}

-- ---- the atoms of a text

abbrev are_star : List Atom → Bool
are_star xs = list_any (λ a. byte_of a == star) xs

atoms_plain : (is_quoted : Bool) (text : List ℕ) → has_star text ≡ false → are_star (atoms_after is_quoted text) ≡ false
atoms_plain true [] plain = refl
atoms_plain false [] plain = refl
atoms_plain true (b ∷ bs) plain =
    let parts = or_parts (b == star) (has_star bs) plain in
    grind (arith, parts.0, atoms_plain false bs parts.1, eqb-true b 110, eqb-true b 116, eqb-true b 98, eqb-true b 48)
atoms_plain false (b ∷ bs) plain =
    let parts = or_parts (b == star) (has_star bs) plain in
    grind (arith, parts.0, atoms_plain true bs parts.1, atoms_plain false bs parts.1)

before_plain : (xs : List Atom) → are_star xs ≡ false → are_star (before_at xs) ≡ false
before_plain [] plain = refl
before_plain (Byte b ∷ xs) plain = let parts = or_parts (b == star) (are_star xs) plain in or_from (b == star) (are_star (before_at xs)) parts.0 (before_plain xs parts.1)
before_plain (Slash ∷ xs) plain = before_plain xs plain
before_plain (At ∷ xs) plain = refl
before_plain (Lone ∷ xs) plain = before_plain xs plain

after_plain : (xs ys : List Atom) → after_at xs ≡ Some ys → are_star xs ≡ false → are_star ys ≡ false
after_plain [] ys is plain = absurd cc
after_plain (Byte b ∷ xs) ys is plain = after_plain xs ys is (or_parts (b == star) (are_star xs) plain).1
after_plain (Slash ∷ xs) ys is plain = after_plain xs ys is plain
after_plain (At ∷ xs) ys is plain = grind (arith, is, plain)
after_plain (Lone ∷ xs) ys is plain = after_plain xs ys is plain

bytes_plain : (xs : List Atom) → has_star (map byte_of xs) ≡ are_star xs
bytes_plain [] = refl
bytes_plain (x ∷ xs) = ap (λ (b : Bool). (byte_of x == star) || b) (bytes_plain xs)

onto_plain : (x : Atom) (parts : List (List Atom)) → list_any are_star (onto_first x parts) ≡ ((byte_of x == star) || list_any are_star parts)
onto_plain x [] = grind arith
onto_plain x (part ∷ parts) = grind arith

split_plain : (xs : List Atom) → list_any are_star (slice_split is_slash xs) ≡ are_star xs
split_plain [] = refl
split_plain (Byte b ∷ xs) = onto_plain (Byte b) (slice_split is_slash xs) ∙ ap (λ (t : Bool). (b == star) || t) (split_plain xs)
split_plain (Slash ∷ xs) = split_plain xs
split_plain (At ∷ xs) = onto_plain At (slice_split is_slash xs) ∙ split_plain xs
split_plain (Lone ∷ xs) = onto_plain Lone (slice_split is_slash xs) ∙ split_plain xs

parts_plain : (parts : List (List Atom)) → list_any has_star (map (map byte_of) parts) ≡ list_any are_star parts
parts_plain [] = refl
parts_plain (part ∷ parts) = grind (arith, bytes_plain part, parts_plain parts)

-- ---- names

named_ok : (fault : Option NameFault) (realm : Option (List ℕ)) (components : List (List ℕ)) (p : Parts) → name_or_fault fault realm components ≡ Ok p → (realm ≡ Some p.realm) × (components ≡ p.components)
named_ok (Some fault) realm components p is = absurd cc
named_ok None None components p is = absurd cc
named_ok None (Some realm) components p is = (grind (arith, is), grind (arith, is))

realm_plain : (after : Option (List Atom)) (realm : List ℕ) → ((ys : List Atom) → after ≡ Some ys → are_star ys ≡ false) → option_or (option_map (map byte_of) after) None ≡ Some realm → has_star realm ≡ false
realm_plain None realm plain is = absurd cc
realm_plain (Some ys) realm plain is =
    let same : realm ≡ map byte_of ys = grind (arith, is) in
    ap has_star same ∙ bytes_plain ys ∙ plain ys refl

-- a name that a text without a star spells has none
name_plain : (text : List ℕ) (p : Parts) → has_star text ≡ false → name_of text None ≡ Ok p → (list_any has_star p.components ≡ false) × (has_star p.realm ≡ false)
name_plain text p plain is =
    let xs = atoms text in
    let none = atoms_plain false text plain in
    let parts = named_ok (first_fault (faults_of xs)) (realm_of xs None) (components_of xs) p is in (
      ap (list_any has_star) (sym parts.1) ∙ parts_plain (slice_split is_slash (before_at xs)) ∙ split_plain (before_at xs) ∙ before_plain xs none,
      realm_plain (after_at xs) p.realm (λ ys after. after_plain xs ys after none) parts.0,
    )

fit_plain : (ps cs : List (List ℕ)) → list_any has_star ps ≡ false → pointwise fits_bytes ps cs ≡ pointwise bytes_eq ps cs
fit_plain [] [] plain = refl
fit_plain [] (c ∷ cs) plain = refl
fit_plain (p ∷ ps) [] plain = refl
fit_plain (p ∷ ps) (c ∷ cs) plain =
    let parts = or_parts (has_star p) (list_any has_star ps) plain in
    grind (arith, fits_plain p c parts.0, fit_plain ps cs parts.1)

fits_named : (pattern p : Parts) → list_any has_star pattern.components ≡ false → has_star pattern.realm ≡ false → fits pattern p ≡ have_same_name pattern p
fits_named pattern p components realm = grind (arith, fit_plain pattern.components p.components components, fits_plain pattern.realm p.realm realm)

-- names with components are the same iff they print alike
same_printed : (p q : Parts) → 0 < length p.components → 0 < length q.components → have_same_name p q ≡ bytes_eq (name_text p) (name_text q)
same_printed p q some others =
    sym (same_name_is p q (bytes_eq (name_text p) (name_text q))
    (λ alike.
    let texts = (bytes_eq-Decides (name_text p) (name_text q)).0 alike in
    let names : Ok (record p { name_type = 1 }) ≡ Ok (record q { name_type = 1 }) = sym (name_of-name_text p None some) ∙ ap (λ (l : List ℕ). name_of l None) texts ∙ name_of-name_text q None others in
    (grind (arith, names), grind (arith, names)))
    (λ realm components. (bytes_eq-Decides (name_text p) (name_text q)).1 (grind (arith, realm, components))))

some_components : (text : List ℕ) (p : Parts) → name_of text None ≡ Ok p → 0 < length p.components
some_components text p is =
    let xs = atoms text in
    let parts = named_ok (first_fault (faults_of xs)) (realm_of xs None) (components_of xs) p is in
    omega (arith, ap length parts.1, length-map (slice_split is_slash (before_at xs)) (map byte_of), length-slice_split is_slash (before_at xs))

pub named : IsNameWithoutStar
named text pattern plain is =
    let same = same_text text plain in
    let name : name_of text None ≡ Ok pattern = ap (λ (l : List ℕ). name_of l None) (sym same) ∙ is in
    let none = name_plain text pattern (ap has_star (sym same) ∙ plain) name in
    (name, λ p some. fits_named pattern p none.0 none.1 ∙ same_printed pattern p (some_components text pattern name) some)

no_components : (ps cs : List (List ℕ)) → 0 < length ps → length cs ≡ 0 → pointwise fits_bytes ps cs ≡ false
no_components [] cs some none = absurd (omega (arith, some))
no_components (p ∷ ps) [] some none = refl
no_components (p ∷ ps) (c ∷ cs) some none = absurd (omega (arith, none))

pub components : HasComponents
components text pattern p is none =
    ap (λ (b : Bool). b && fits_bytes pattern.realm p.realm) (no_components pattern.components p.components (some_components (starred text) pattern is) none)
