-- What two lists do not share is read of the first entries of their classes, over both lists in either order.
use Rattle.krb_copy.proofs.Cited.{◌≡◌, Bool, true, false, cond, List, [], ◌∷◌, ◌++◌, length, Option, Some, None, refl, arith, sym, ap, subst, ◌∙◌, append-nil, append_assoc, map, ◌||◌, ◌&&◌, not, list_any, list_any-append, filter_map, cons_option, flat_map, find, inl, inr, option_map, is_some, EntryParts, PlacedEntry, placed_entries, are_twins, are_same, and-false, or_comm, or-false, not-false, or_cases, or_left, or_right, or_parts, nil_from_length, filter_map-append, AreMirrored, NoDifference, swapped, AllByRecursion, KeytabState, as_found, run_start, copy_run, ReportsNothing, any_of_map}
use Rattle.std.specs.List.Sorted.{IsPermutation}
use Rattle.std.proofs.lemmas.List.Sorted.{IsPermutation-append_comm, IsPermutation-append_left, IsPermutation-append_right, IsPermutation-refl, IsPermutation-trans, length_permutation}
use Rattle.krb_copy.specs.Diff.{Difference, Both, Ours, Theirs, diff_text, difference_at, difference_line, differences, firsts, has_more_keys, has_twin}
use Rattle.krb_copy.proofs.Passing.{some_found}
use Rattle.krb_copy.proofs.Alike.{twins_equiv, alike, same_are_twins}
use Rattle.krb_copy.proofs.Elsewhere.{all_mapped}
use Rattle.krb_copy.proofs.LawLemmas.{IsHeld}
use Rattle.krb_copy.proofs.LawRuns.{all_before, bare, second_over, silent}

-- ---- runs that report nothing

-- a list has each of these entries, with its key
abbrev pub HasAll : List PlacedEntry → List PlacedEntry → Type 0
HasAll ys xs = AllByRecursion (λ x. list_any (λ y. are_same x.1 y.1) ys ≡ true) xs

from_held : (ys xs : List PlacedEntry) → AllByRecursion (IsHeld (map as_found ys)) (bare xs) → HasAll ys xs
from_held ys [] held = tt
from_held ys (x ∷ xs) held = (sym (any_of_map (λ h. are_same x.1 h.entry) as_found ys) ∙ held.0, from_held ys xs held.1)

pub reported_nothing : (replace : Bool) (asked : List PlacedEntry) (k : KeytabState) → ReportsNothing replace asked k → HasAll (placed_entries k) asked
unfolding copy_run
reported_nothing replace asked k t =
    let s = silent replace asked k t.0 t.1 t.2 in
    from_held (placed_entries k) asked (subst (AllByRecursion (IsHeld (run_start k).held)) (all_before replace asked (run_start k) t.0 t.1 s.1) s.3)

pub reports_nothing : (replace : Bool) (asked : List PlacedEntry) (k : KeytabState) → HasAll (placed_entries k) asked → ReportsNothing replace asked k
unfolding copy_run
reports_nothing replace asked k has =
    let held = all_mapped _ (λ x. IsHeld (map as_found (placed_entries k)) x.1) asked (λ x any. any_of_map (λ h. are_same x.1 h.entry) as_found (placed_entries k) ∙ any) has in
    let r = second_over replace asked (run_start k) held in (r.0, r.1, r.3)

-- ---- the order of the entries

-- classes whose first entries were met, with that of one entry more
abbrev also : (EntryParts → Bool) → PlacedEntry → EntryParts → Bool
also met z x = are_twins x z.1 || met x

-- twins are both met or neither
abbrev AreClasses : (EntryParts → Bool) → Type 0
AreClasses met = (x y : EntryParts) → are_twins x y ≡ true → met x ≡ met y

also_classes : (met : EntryParts → Bool) (z : PlacedEntry) → AreClasses met → AreClasses (also met z)
also_classes met z are x y twin = rw (twins_equiv.congr x y z.1 twin, are x y twin) refl

or_swap : (a b c : Bool) → (a || (b || c)) ≡ (b || (a || c))
or_swap a b c = grind arith

met_more : (x : EntryParts) (before : List PlacedEntry) (z : PlacedEntry) → has_twin x (before ++ z ∷ []) ≡ (are_twins x z.1 || has_twin x before)
met_more x before z = list_any-append (λ (y : PlacedEntry). are_twins x y.1) before (z ∷ []) ∙ rw or-false (or_comm (has_twin x before) (are_twins x z.1))

module _ {D : Type 0} (d : PlacedEntry → Option D) where
  -- what is read of the first entries of classes that were not met before
  abbrev pub kept : (EntryParts → Bool) → List PlacedEntry → List D
  kept met [] = []
  kept met (z ∷ zs) = filter_map d (cond (met z.1) [] (z ∷ [])) ++ kept (also met z) zs

  pub firsts_kept : (before zs : List PlacedEntry) → filter_map d (firsts before zs) ≡ kept (λ x. has_twin x before) zs
  firsts_kept before [] = refl
  firsts_kept before (z ∷ zs) =
      let one : List PlacedEntry = cond (has_twin z.1 before) [] (z ∷ []) in
      filter_map-append d one (firsts (before ++ z ∷ []) zs)
      ∙ ap (λ (l : List D). filter_map d one ++ l) (firsts_kept (before ++ z ∷ []) zs ∙ ap (λ (met : EntryParts → Bool). kept met zs) (λ i x. met_more x before z i))

  module _ (same : (x y : PlacedEntry) → are_twins x.1 y.1 ≡ true → d x ≡ d y) where
    heads : (a b t : Bool) (x y : PlacedEntry) → (t ≡ true → a ≡ b) → (t ≡ true → d x ≡ d y)
        → IsPermutation (filter_map d (cond a [] (x ∷ [])) ++ filter_map d (cond (t || b) [] (y ∷ []))) (filter_map d (cond b [] (y ∷ [])) ++ filter_map d (cond (t || a) [] (x ∷ [])))
    heads a b false x y are alike = search IsPermutation-append_comm
    heads true b true x y are alike = rw (← (are refl)) (IsPermutation-refl _)
    heads false b true x y are alike = rw (← (are refl), alike refl) (IsPermutation-refl _)

    two : (met : EntryParts → Bool) (x y : PlacedEntry) (zs : List PlacedEntry) → AreClasses met → IsPermutation (kept met (x ∷ y ∷ zs)) (kept met (y ∷ x ∷ zs))
    two met x y zs are =
        let rest = kept (also (also met y) x) zs in
        let swap : kept (also (also met x) y) zs ≡ rest = ap (λ (m : EntryParts → Bool). kept m zs) (λ i w. or_swap (are_twins w y.1) (are_twins w x.1) (met w) i) in
        rw (swap, twins_equiv.symm y.1 x.1, ← append_assoc, ← append_assoc) (IsPermutation-append_left rest _ _ (heads (met x.1) (met y.1) (are_twins x.1 y.1) x y (are x.1 y.1) (same x y)))

    move : (met : EntryParts → Bool) (xs : List PlacedEntry) (y : PlacedEntry) (zs : List PlacedEntry) → AreClasses met → IsPermutation (kept met (xs ++ y ∷ zs)) (kept met (y ∷ (xs ++ zs)))
    move met [] y zs are = IsPermutation-refl _
    move met (x ∷ xs) y zs are = IsPermutation-trans _ _ _ (IsPermutation-append_right _ _ _ (move (also met x) xs y zs (also_classes met x are))) (two met x y (xs ++ zs) are)

    pub turned : (met : EntryParts → Bool) (xs ys : List PlacedEntry) → AreClasses met → IsPermutation (kept met (xs ++ ys)) (kept met (ys ++ xs))
    turned met xs [] are = rw (append-nil xs) (IsPermutation-refl _)
    turned met xs (y ∷ ys) are = IsPermutation-trans _ _ _ (move met xs y ys are) (IsPermutation-append_right _ _ _ (turned (also met y) xs ys (also_classes met y are)))

    first_is : (o : Option D) (l : List D) → cons_option o [] ++ l ≡ [] → o ≡ None
    first_is o l e = grind (arith, e)

    -- if nothing is read, nothing is read of any entry
    pub none_read : (front : List PlacedEntry) (z : PlacedEntry) (back : List PlacedEntry) → filter_map d (firsts [] (front ++ z ∷ back)) ≡ [] → d z ≡ None
    none_read front z back e = first_is (d z) _ (nil_from_length _ (length_permutation _ _ (move (λ x. false) front z back (λ x y twin. refl)) ∙ ap length (sym (firsts_kept [] (front ++ z ∷ back)) ∙ e)))

-- ---- one reading for both lists

abbrev twin_in : List PlacedEntry → PlacedEntry → Option PlacedEntry
twin_in ys x = find (λ y. are_twins x.1 y.1) ys

abbrev differ : List PlacedEntry → List PlacedEntry → PlacedEntry → Bool
differ xs ys z = has_more_keys z.1 xs ys || has_more_keys z.1 ys xs

-- the difference of a class, by its first entries in both lists
abbrev by_firsts : Bool → Option PlacedEntry → Option PlacedEntry → Option Difference
by_firsts b None None = None
by_firsts b None (Some y) = Some (Theirs y)
by_firsts b (Some x) None = Some (Ours x)
by_firsts b (Some x) (Some y) = cond b (Some (Both x y)) None

abbrev of_class : List PlacedEntry → List PlacedEntry → PlacedEntry → Option Difference
of_class xs ys z = by_firsts (differ xs ys z) (twin_in xs z) (twin_in ys z)

-- twins have one
same_class : (xs ys : List PlacedEntry) (x y : PlacedEntry) → are_twins x.1 y.1 ≡ true → of_class xs ys x ≡ of_class xs ys y
same_class xs ys x y twin = ap (λ (t : EntryParts → Bool).
    by_firsts (list_any (λ a. t a.1 && not (list_any (λ b. are_same a.1 b.1) ys)) xs || list_any (λ a. t a.1 && not (list_any (λ b. are_same a.1 b.1) xs)) ys) (find (λ w. t w.1) xs) (find (λ w. t w.1) ys)) (alike x.1 y.1 twin)

firsts-append : (before xs ys : List PlacedEntry) → firsts before (xs ++ ys) ≡ firsts before xs ++ firsts (before ++ xs) ys
firsts-append before [] ys = ap (λ (l : List PlacedEntry). firsts l ys) (sym (append-nil before))
firsts-append before (x ∷ xs) ys = rw (firsts-append (before ++ x ∷ []) xs ys, append_assoc before (x ∷ []) xs) (sym (append_assoc _ (firsts (before ++ x ∷ []) xs) (firsts (before ++ x ∷ xs) ys)))

no_twin : (z : PlacedEntry) (ys : List PlacedEntry) → has_twin z.1 ys ≡ false → twin_in ys z ≡ None
no_twin z [] e = refl
no_twin z (y ∷ ys) e = grind (arith, no_twin z ys)

first_twin : (front : List PlacedEntry) (z : PlacedEntry) (back : List PlacedEntry) → has_twin z.1 front ≡ false → twin_in (front ++ z ∷ back) z ≡ Some z
first_twin [] z back e = rw (twins_equiv.refl z.1) refl
first_twin (y ∷ front) z back e = let h = or_parts (are_twins z.1 y.1) (has_twin z.1 front) e in rw h.0 (first_twin front z back h.1)

-- readings that agree on first entries
agree : {D : Type 0} (f g : PlacedEntry → Option D) (before zs : List PlacedEntry) → ((front : List PlacedEntry) (z : PlacedEntry) (back : List PlacedEntry) → zs ≡ front ++ z ∷ back → has_twin z.1 (before ++ front) ≡ false → f z ≡ g z) → filter_map f (firsts before zs) ≡ filter_map g (firsts before zs)
agree f g before [] each = refl
agree f g before (z ∷ zs) each =
    let here : has_twin z.1 before ≡ false → f z ≡ g z = λ e. each [] z zs refl (rw append-nil e) in
    let others = agree f g (before ++ z ∷ []) zs (λ front w back e h. each (z ∷ front) w back (ap (λ (l : List PlacedEntry). z ∷ l) e) (rw (append_assoc before (z ∷ []) front) at h)) in
    grind (arith, here, others)

all_theirs : (zs : List PlacedEntry) → filter_map (λ z. Some (Theirs z)) zs ≡ map Theirs zs
all_theirs [] = refl
all_theirs (z ∷ zs) = ap (λ (l : List Difference). Theirs z ∷ l) (all_theirs zs)

joined : (xs ys : List PlacedEntry) → differences xs ys ≡ filter_map (of_class xs ys) (firsts [] (xs ++ ys))
joined xs ys =
    let d = of_class xs ys in
    let ours : filter_map (difference_at xs ys) (firsts [] xs) ≡ filter_map d (firsts [] xs) = agree (difference_at xs ys) d [] xs
    (λ front z back e h. sym (ap (λ (o : Option PlacedEntry). by_firsts (differ xs ys z) o (twin_in ys z)) (ap (λ (l : List PlacedEntry). twin_in l z) e ∙ first_twin front z back h) ∙ (grind arith))) in
    let theirs : filter_map (λ z. Some (Theirs z)) (firsts xs ys) ≡ filter_map d (firsts xs ys) = agree (λ z. Some (Theirs z)) d xs ys
    (λ front z back e h. let p = or_parts (has_twin z.1 xs) (has_twin z.1 front) (sym (list_any-append (λ (y : PlacedEntry). are_twins z.1 y.1) xs front) ∙ h) in
    sym (ap (λ (o : Option PlacedEntry). by_firsts (differ xs ys z) o (twin_in ys z)) (no_twin z xs p.0) ∙ ap (by_firsts (differ xs ys z) None) (ap (λ (l : List PlacedEntry). twin_in l z) e ∙ first_twin front z back p.1))) in
    rw (firsts-append [] xs ys, filter_map-append d (firsts [] xs) (firsts xs ys), ← ours, ← theirs, all_theirs (firsts xs ys)) refl

map-filter_map : {D E : Type 0} (f : D → E) (d : PlacedEntry → Option D) (zs : List PlacedEntry) → map f (filter_map d zs) ≡ filter_map (λ z. option_map f (d z)) zs
map-filter_map f d [] = refl
map-filter_map f d (z ∷ zs) = grind (arith, map-filter_map f d zs)

turned_back : (b c : Bool) (o p : Option PlacedEntry) → option_map swapped (by_firsts (b || c) o p) ≡ by_firsts (c || b) p o
turned_back b c o p = grind arith

pub are_mirrored : AreMirrored
are_mirrored xs ys =
    let d = of_class xs ys in
    let other = of_class ys xs in
    rw (joined xs ys, joined ys xs, map-filter_map swapped d (firsts [] (xs ++ ys)), firsts_kept other [] (ys ++ xs))
    (subst (λ (l : List Difference). IsPermutation l (kept other (λ x. false) (ys ++ xs)))
    (sym (firsts_kept other [] (xs ++ ys)) ∙ ap (λ (f : PlacedEntry → Option Difference). filter_map f (firsts [] (xs ++ ys))) (λ i z. sym (turned_back (has_more_keys z.1 xs ys) (has_more_keys z.1 ys xs) (twin_in xs z) (twin_in ys z)) i))
    (turned other (same_class ys xs) (λ x. false) xs ys (λ x y twin. refl)))

-- ---- if each list has each entry of the other

same_has_twin : (x : EntryParts) (ys : List PlacedEntry) → list_any (λ y. are_same x y.1) ys ≡ true → has_twin x ys ≡ true
same_has_twin x [] e = e
same_has_twin x (y ∷ ys) e = grind (arith, same_are_twins x y.1, same_has_twin x ys)

has_no_more : (x : EntryParts) (ys xs : List PlacedEntry) → HasAll ys xs → has_more_keys x xs ys ≡ false
has_no_more x ys [] has = refl
has_no_more x ys (a ∷ xs) has = rw (has.0, and-false (are_twins x a.1)) (has_no_more x ys xs has.1)

twin_there : (x : EntryParts) (ys xs : List PlacedEntry) → HasAll ys xs → has_twin x xs ≡ true → has_twin x ys ≡ true
twin_there x ys [] has e = absurd cc
twin_there x ys (a ∷ xs) has e = elim (or_cases (are_twins x a.1) _ e) [
  | inl twin ↦ ap (λ (t : EntryParts → Bool). list_any (λ y. t y.1) ys) (alike x a.1 twin) ∙ same_has_twin a.1 ys has.0
  | inr later ↦ twin_there x ys xs has.1 later
]

any_twin : (ys : List PlacedEntry) (z : PlacedEntry) → has_twin z.1 ys ≡ is_some (twin_in ys z)
any_twin ys z = sym (some_found (λ y. are_twins z.1 y.1) ys)

no_class : (xs ys : List PlacedEntry) (z : PlacedEntry) → HasAll ys xs → HasAll xs ys → of_class xs ys z ≡ None
no_class xs ys z has has_too =
    rw (has_no_more z.1 ys xs has, has_no_more z.1 xs ys has_too) (grind (arith, any_twin xs z, any_twin ys z, twin_there z.1 ys xs has, twin_there z.1 xs ys has_too))

nothing_read : {D : Type 0} (zs : List PlacedEntry) → filter_map (λ (z : PlacedEntry). let o : Option D = None in o) zs ≡ []
nothing_read [] = refl
nothing_read (z ∷ zs) = nothing_read zs

no_text : (xs ys : List PlacedEntry) → HasAll ys xs → HasAll xs ys → diff_text xs ys ≡ []
unfolding diff_text
no_text xs ys has has_too = ap (flat_map difference_line) (joined xs ys ∙ ap (λ (d : PlacedEntry → Option Difference). filter_map d (firsts [] (xs ++ ys))) (λ i z. no_class xs ys z has has_too i) ∙ nothing_read (firsts [] (xs ++ ys)))

-- ---- if there is no line

no_lines : (ds : List Difference) → flat_map difference_line ds ≡ [] → ds ≡ []
no_lines [] e = refl
no_lines (d ∷ ds) e = search arith

not_differ : (b : Bool) (o p : Option PlacedEntry) → by_firsts b o p ≡ None → is_some o ≡ true → b ≡ false
not_differ b o p e some = grind arith

-- each entry is among those of the other list
all_had : (xs ys front zs : List PlacedEntry) → xs ≡ front ++ zs → differences xs ys ≡ [] → HasAll ys zs
all_had xs ys front [] is none = tt
all_had xs ys front (z ∷ zs) is none =
    let read = none_read (of_class xs ys) (same_class xs ys) front z (zs ++ ys) (ap (λ (l : List PlacedEntry). filter_map (of_class xs ys) (firsts [] l)) (sym (append_assoc front (z ∷ zs) ys) ∙ ap (λ (l : List PlacedEntry). l ++ ys) (sym is)) ∙ sym (joined xs ys) ∙ none) in
    let any = λ (q : PlacedEntry → Bool). ap (list_any q) is ∙ list_any-append q front (z ∷ zs) in
    let self : has_twin z.1 xs ≡ true = any (λ y. are_twins z.1 y.1) ∙ or_right _ _ (or_left _ _ (twins_equiv.refl z.1)) in
    let same = not_differ (differ xs ys z) (twin_in xs z) (twin_in ys z) read (sym (any_twin xs z) ∙ self) in
    let more = or_parts (has_more_keys z.1 xs ys) _ same in
    let here = or_parts _ _ ((or_parts _ _ (sym (any (λ a. are_twins z.1 a.1 && not (list_any (λ b. are_same a.1 b.1) ys))) ∙ more.0)).1) in
    (not-false _ (ap (λ (t : Bool). t && not (list_any (λ b. are_same z.1 b.1) ys)) (sym (twins_equiv.refl z.1)) ∙ here.0), all_had xs ys (front ++ z ∷ []) zs (is ∙ sym (append_assoc front (z ∷ []) zs)) none)

no_difference : (xs ys : List PlacedEntry) → diff_text xs ys ≡ [] → HasAll ys xs × HasAll xs ys
unfolding diff_text
no_difference xs ys e =
    let none = no_lines (differences xs ys) e in
    let other = nil_from_length (differences ys xs) (length_permutation _ _ (are_mirrored xs ys) ∙ ap (λ (ds : List Difference). length (map swapped ds)) none) in
    (all_had xs ys [] xs refl none, all_had ys xs [] ys refl other)

pub no_difference_law : NoDifference
no_difference_law replace j k =
    let ours = placed_entries j in
    let others = placed_entries k in (
      λ none. let has = no_difference ours others none in (reports_nothing replace ours k has.0, reports_nothing replace others j has.1),
      λ silent. no_text ours others (reported_nothing replace ours k silent.0) (reported_nothing replace others j silent.1),
    )
