-- What a run does to the entries of its keytab.
use Rattle.krb_copy.proofs.Cited.{◌≡◌, ℕ, Bool, true, false, cond, List, [], ◌∷◌, Some, Ok, refl, arith, sym, ap, ◌∙◌, map, filter, not, ◌||◌, AllByRecursion, list_any, bytes_eq, list_any-append, EntryParts, PlacedEntry, placed_entries, KeytabState, entry_at_place, put_result, without, are_twins, are_same, Held, There, Copy, as_found, as_copied, twins, step_among, step_of, with_copy, added_reads, is_kept, IsInPlace, cond_both, not-true, or_left, or_right, all_join, IsEntry, read_back}
use Rattle.krb_copy.proofs.Alike.{twins_equiv, same_equiv, same_are_twins}
use Rattle.krb_copy.proofs.Passing.{any_either, any_left}
use Rattle.krb_copy.proofs.Elsewhere.{entries_read, put_elsewhere, without_elsewhere}

-- ---- what is there

-- each entry is there
abbrev pub AreThere : KeytabState → List Held → Type 0
AreThere k held = AllByRecursion (IsInPlace k) held

-- one of the entries is the same
abbrev pub IsHeld : List Held → EntryParts → Type 0
IsHeld held a = list_any (λ h. are_same a h.entry) held ≡ true

found_there : (k : KeytabState) (ys : List PlacedEntry) → AllByRecursion (λ y. entry_at_place k y.0 ≡ Some y.1) ys → AreThere k (map as_found ys)
found_there k [] read = tt
found_there k (y ∷ ys) read = ((y.1, read.0, same_equiv.refl y.1), found_there k ys read.1)

pub start_there : (k : KeytabState) → AreThere k (map as_found (placed_entries k))
start_there k = found_there k (placed_entries k) (entries_read k)

-- ---- the step of a copy

pub record CopyStep (before : List EntryParts) (held : List Held) (x : EntryParts) (places : List ℕ) : Type 0 where
  pub places_are : places ≡ map (λ h. h.place) (twins x held)
  pub none_stays : list_any (is_kept before) (twins x held) ≡ false

pub copy_step : (replace : Bool) (before : List EntryParts) (held : List Held) (x : EntryParts) (places : List ℕ) → step_of replace before held x ≡ Copy places → CopyStep before held x places
copy_step replace before held x places e = search arith

-- ---- an entry that is no twin stays

-- an entry that is the same as another has its twins
same_twin : (x y e : EntryParts) → are_same y e ≡ true → are_twins x y ≡ are_twins x e
same_twin x y e same = twins_equiv.symm x y ∙ twins_equiv.congr y e x (same_are_twins y e same) ∙ twins_equiv.symm e x

-- its place is none of those of the twins
apart_places : (k : KeytabState) (q : ℕ) (e x : EntryParts) (held : List Held) → AreThere k held → entry_at_place k q ≡ Some e → are_twins x e ≡ false → AllByRecursion (λ p. q ≡ p → ⊥) (map (λ h. h.place) (twins x held))
apart_places k q e x [] there read other = tt
apart_places k q e x (h ∷ hs) there read other =
    let rest = apart_places k q e x hs there.1 read other in
    let f = there.0 in
    cond_both (are_twins x h.entry) (h ∷ twins x hs) (twins x hs) (λ hs. AllByRecursion (λ p. q ≡ p → ⊥) (map (λ g. g.place) hs))
    (λ twin. (λ same. grind (arith, same, read, other, twin, f.1, same_twin x h.entry f.0 f.2), rest)) (λ no_twin. rest)

pub stays_after : (k : KeytabState) (held : List Held) (x : EntryParts) (places : List ℕ) (given : ℕ × KeytabState) (q : ℕ) (e : EntryParts) → AreThere k held → places ≡ map (λ h. h.place) (twins x held) → put_result (without k places) x ≡ Ok given
    → entry_at_place k q ≡ Some e → are_twins x e ≡ false → entry_at_place given.1 q ≡ Some e
stays_after k held x places given q e there are put read other = search (arith, put_elsewhere, without_elsewhere, apart_places)

others_there : (k new : KeytabState) (x : EntryParts) (held : List Held) → ((q : ℕ) (e : EntryParts) → entry_at_place k q ≡ Some e → are_twins x e ≡ false → entry_at_place new q ≡ Some e) → AreThere k held → AreThere new (filter (λ h. not (are_twins x h.entry)) held)
others_there k new x [] stays there = tt
others_there k new x (h ∷ hs) stays there =
    let rest = others_there k new x hs stays there.1 in
    let others = filter (λ g. not (are_twins x g.entry)) hs in
    cond_both (not (are_twins x h.entry)) (h ∷ others) others (AreThere new)
    (λ other. let f = there.0 in ((f.0, stays h.place f.0 f.1 (sym (same_twin x h.entry f.0 f.2) ∙ not-true _ other), f.2), rest)) (λ twin. rest)

pub copy_there : (k : KeytabState) (held : List Held) (x : EntryParts) (places : List ℕ) (given : ℕ × KeytabState) → IsEntry x → AreThere k held → places ≡ map (λ h. h.place) (twins x held) → put_result (without k places) x ≡ Ok given → AreThere given.1 (with_copy held x given.0)
copy_there k held x places given fits there are put =
    all_join (IsInPlace given.1) (filter (λ h. not (are_twins x h.entry)) held) (as_copied given.0 x ∷ [])
    (others_there k given.1 x held (λ q e read other. stays_after k held x places given q e there are put read other) there)
    ((read_back (without k places).format x, added_reads (without k places) x given fits put, same_equiv.refl x), tt)

-- ---- what was asked for is held

-- one of those that a filter leaves, or of those that it takes away
pub any_parts : (t p : Held → Bool) (held : List Held) → list_any p held ≡ (list_any p (filter t held) || list_any p (filter (λ h. not (t h)) held))
any_parts t p [] = refl
any_parts t p (h ∷ hs) = grind (arith, any_parts t p hs)

held_after : (x : EntryParts) (held : List Held) (place : ℕ) (a : EntryParts) → list_any (λ h. are_same a h.entry) (twins x held) ≡ false → IsHeld held a → IsHeld (with_copy held x place) a
held_after x held place a none is =
    grind (arith, none, is, any_parts (λ h. are_twins x h.entry) (λ h. are_same a h.entry) held, list_any-append (λ h. are_same a h.entry) (filter (λ h. not (are_twins x h.entry)) held) (as_copied place x ∷ []))

pub copy_held : (x : EntryParts) (held : List Held) (place : ℕ) → IsHeld (with_copy held x place) x
copy_held x held place = list_any-append (λ h. are_same x h.entry) (filter (λ h. not (are_twins x h.entry)) held) (as_copied place x ∷ []) ∙ or_right _ _ (or_left _ _ (same_equiv.refl x))

-- what was held is held after a copy, as no twin of it that goes was kept
pub all_held_after : (x : EntryParts) (held : List Held) (place : ℕ) (before : List EntryParts) → list_any (is_kept before) (twins x held) ≡ false → AllByRecursion (IsHeld held) before → AllByRecursion (IsHeld (with_copy held x place)) before
all_held_after x held place [] none are = tt
all_held_after x held place (a ∷ before) none are =
    let same : Held → Bool = λ g. are_same a g.entry in
    let others : Held → Bool = λ g. list_any (λ b. are_same b g.entry) before in
    let both = any_either (λ g. g.is_copied) (λ g. same g || others g) (twins x held) in
    let either = any_either same others (twins x held) in
    (held_after x held place a (grind (arith, none, both, either)) are.0, all_held_after x held place before (grind (arith, none, both, either, any_either (λ g. g.is_copied) others (twins x held))) are.1)

any_there : (x : EntryParts) (held : List Held) → list_any (λ h. bytes_eq x.key h.entry.key) (twins x held) ≡ list_any (λ h. are_same x h.entry) held
any_there x held = any_left (λ h. are_twins x h.entry) (λ h. bytes_eq x.key h.entry.key) held

-- an entry that is there is held
pub held_there : (replace : Bool) (before : List EntryParts) (held : List Held) (x : EntryParts) → step_of replace before held x ≡ There → IsHeld held x
held_there replace before held x e = sym (any_there x held) ∙ (search arith)

-- an entry that is held is there
pub there_held : (replace : Bool) (before : List EntryParts) (held : List Held) (x : EntryParts) → IsHeld held x → step_of replace before held x ≡ There
there_held replace before held x e = ap (λ (b : Bool). cond b There (step_among replace before (twins x held))) (any_there x held ∙ e)
