-- After removals and an addition a keytab has no entry but those that were left and the new one.
use Rattle.krb_copy.proofs.Cited.{◌≡◌, ℕ, Bool, true, false, cond, List, [], ◌∷◌, Option, Some, None, Result, Ok, Err, refl, sym, ap, ◌∙◌, inl, inr, map, filter, not, ◌==◌, ◌||◌, list_any, list_any-append, Code, EntryParts, PlacedEntry, placed_entries, KeytabState, entry_at_place, put_result, without, are_twins, Held, Run, as_found, as_copied, twins, with_copy, run_over, run_start, copy_run, is_some, eq-eqb, eqb-true, or_right, cut_store, entry_at, store_of, cut_result, with_hole, cut_gives, put_gives, removed_none, AreEntries, GoesByItsEntries, ◌>>=◌, IsEntry, fault_of, fault_from, live_bytes, cases_eq, or_cases, or_left, none-some, any_of_map, arith, ◌++◌, AllByRecursion, are_same, get_or, NothingElse, All-filter, All-from_recursion, recursion_from_All, all_join, list_any_at}
use Rattle.krb_walk.specs.declared.refusal.Code.TheVariants as code
use Rattle.krb_walk.specs.declared.fault.FaultKind.{FaultKind}
use Rattle.krb_copy.proofs.Elsewhere.{any_entry, cut_apart, put_apart, all_mapped}
use Rattle.krb_copy.proofs.LawLemmas.{any_parts, copy_step, start_there, AreThere}
use Rattle.krb_copy.proofs.RunSteps.{kept_over}
use Rattle.krb_copy.proofs.LawRuns.{are_there}
use Rattle.krb_copy.proofs.Alike.{same_equiv}

not_there : (k : KeytabState) (q : ℕ) (e : EntryParts) → live_bytes (store_of k) q ≡ None → entry_at_place k q ≡ Some e → ⊥
not_there k q e none read = none-some e (sym (ap (λ (o : Option (List ℕ)). o >>= entry_at k.format) none) ∙ read)

-- ---- a removal

cut_back : (k : KeytabState) (p q : ℕ) (e : EntryParts) (given : Result KeytabState Code) → cut_result k p ≡ given → entry_at_place (cut_store k given) q ≡ Some e → entry_at_place k q ≡ Some e
cut_back k p q e (Err code) cut read = read
cut_back k p q e (Ok new) cut read = elim (cases_eq q p) [
  | inl here ↦ absurd (not_there new q e (ap (live_bytes (store_of new)) here ∙ removed_none k p new cut) read)
  | inr other ↦ sym (cut_apart k p q (Ok new) cut other) ∙ read
]

without_back : (k : KeytabState) (places : List ℕ) (q : ℕ) (e : EntryParts) → entry_at_place (without k places) q ≡ Some e → entry_at_place k q ≡ Some e
without_back k [] q e read = read
without_back k (p ∷ ps) q e read = cut_back k p q e (cut_result k p) refl (without_back (cut_store k (cut_result k p)) ps q e read)

-- a keytab has no fault
abbrev IsWhole : KeytabState → Type 0
IsWhole k = is_some (fault_of (store_of k)) ≡ false

kind_alone : (a b : ℕ) (kind : Option FaultKind) → is_some (fault_from a kind) ≡ is_some (fault_from b kind)
kind_alone a b kind = grind arith

same_fault : (k : KeytabState) (p : ℕ) (given : Result KeytabState Code) → cut_result k p ≡ given → is_some (fault_of (store_of (cut_store k given))) ≡ is_some (fault_of (store_of k))
same_fault k p (Err code) cut = refl
same_fault k p (Ok new) cut = ap (λ (x : KeytabState). is_some (fault_of (store_of x))) (sym (cut_gives k p new cut).gives) ∙ kind_alone _ _ (store_of k).fault

without_fault : (k : KeytabState) (places : List ℕ) → is_some (fault_of (store_of (without k places))) ≡ is_some (fault_of (store_of k))
without_fault k [] = refl
without_fault k (p ∷ ps) = without_fault (cut_store k (cut_result k p)) ps ∙ same_fault k p (cut_result k p) refl

not_live : (k : KeytabState) (p : ℕ) (o : Option (List ℕ)) (refused : Code) → cond (is_some o) (Ok (with_hole k p)) (Err code.NotLive) ≡ Err refused → o ≡ None
not_live k p o refused e = grind (arith, e)

-- where a record was removed no entry is
cut_gone : (k : KeytabState) (p : ℕ) (e : EntryParts) (given : Result KeytabState Code) → IsWhole k → cut_result k p ≡ given → entry_at_place (cut_store k given) p ≡ Some e → ⊥
cut_gone k p e (Ok new) whole cut read = not_there new p e (removed_none k p new cut) read
cut_gone k p e (Err refused) whole cut read =
    let bytes = live_bytes (store_of k) p in
    let tested = sym (ap (λ (t : Bool). cond t (Err code.Damaged) (cond (is_some bytes) (Ok (with_hole k p)) (Err code.NotLive))) whole) ∙ cut in
    not_there k p e (not_live k p bytes refused tested) read

gone : (k : KeytabState) (places : List ℕ) (q : ℕ) (e : EntryParts) → IsWhole k → list_any (λ r. r == q) places ≡ true → entry_at_place (without k places) q ≡ Some e → ⊥
gone k [] q e whole among read = absurd cc
gone k (p ∷ ps) q e whole among read = elim (or_cases (p == q) _ among) [
  | inl here ↦ cut_gone k p e (cut_result k p) whole refl (without_back (cut_store k (cut_result k p)) ps p e (ap (entry_at_place (without k (p ∷ ps))) (eqb-true p q here) ∙ read))
  | inr later ↦ gone (cut_store k (cut_result k p)) ps q e (same_fault k p (cut_result k p) refl ∙ whole) later read
]

-- ---- the entries that a run goes by

-- each entry of the keytab is among them
abbrev pub AreAll : KeytabState → List Held → Type 0
AreAll k held = (q : ℕ) (e : EntryParts) → entry_at_place k q ≡ Some e → list_any (λ h. h.place == q) held ≡ true

pub all_copied : (k : KeytabState) (held : List Held) (x : EntryParts) (places : List ℕ) (given : ℕ × KeytabState) → AreAll k held → places ≡ map (λ h. h.place) (twins x held) → put_result (without k places) x ≡ Ok given → AreAll given.1 (with_copy held x given.0)
all_copied k held x places given all are put q e read =
    let at : Held → Bool = λ h. h.place == q in
    let others = filter (λ h. not (are_twins x h.entry)) held in
    let among : (list_any at others || list_any at (as_copied given.0 x ∷ [])) ≡ true = elim (cases_eq q given.0) [
      | inl here ↦ or_right (list_any at others) (given.0 == q || false) (or_left (given.0 == q) false (eq-eqb given.0 q (sym here)))
      | inr other ↦
          let old = sym (put_apart (without k places) x given q put other) ∙ read in
          let whole : IsWhole k = sym (without_fault k places) ∙ (put_gives (without k places) x given put).whole in
          or_left (list_any at others) (given.0 == q || false) (elim (or_cases (list_any at (twins x held)) (list_any at others) (sym (any_parts (λ h. are_twins x h.entry) at held) ∙ all q e (without_back k places q e old))) [
            | inl gone_too ↦ absurd (gone k places q e whole (ap (list_any (λ p. p == q)) are ∙ any_of_map (λ p. p == q) (λ h. h.place) (twins x held) ∙ gone_too) old)
            | inr left ↦ left
          ])
    ] in
    list_any-append at others (as_copied given.0 x ∷ []) ∙ among

all_over : (replace : Bool) (asked : List PlacedEntry) (run final : Run) → run_over replace asked run ≡ Ok final → AreEntries asked → AreAll run.keytab run.held → AreAll final.keytab final.held
all_over replace = kept_over replace (λ x. IsEntry x.1) (λ run. AreAll run.keytab run.held) (λ x run fits all e. all) (λ x run twin fits all e. all)
    (λ x run places given fits all e put. all_copied run.keytab run.held x.1 places given all (copy_step replace run.before run.held x.1 places e).places_are put)

pub goes_by_its_entries : GoesByItsEntries
unfolding copy_run
goes_by_its_entries replace asked k run fits e =
    let all : AreAll k (map as_found (placed_entries k)) = λ q e read. any_of_map (λ h. h.place == q) as_found (placed_entries k) ∙ any_entry k q e (λ y. y.0 == q) (eq-eqb q q refl) read in
    (are_there replace asked (run_start k) run e fits (start_there k), all_over replace asked (run_start k) run e fits all)

-- ---- nothing else is there

-- an entry has name, version, enctype and key of one of these
abbrev IsAmong : List PlacedEntry → EntryParts → Type 0
IsAmong all e = list_any (λ x. are_same x.1 e) all ≡ true

abbrev AreAmong : List PlacedEntry → List Held → Type 0
AreAmong all held = AllByRecursion (λ h. IsAmong all h.entry) held

-- each of a list is among it
own_among : (ys : List PlacedEntry) → AllByRecursion (λ y. IsAmong ys y.1) ys
own_among ys = recursion_from_All (λ y. IsAmong ys y.1) ys (λ i d lt. list_any_at (λ x. are_same x.1 (get_or ys i d).1) ys i d lt (same_equiv.refl (get_or ys i d).1))

found_among : (all ys : List PlacedEntry) → AllByRecursion (λ y. IsAmong all y.1) ys → AreAmong all (map as_found ys)
found_among all [] h = tt
found_among all (y ∷ ys) h = (h.0, found_among all ys h.1)

-- ---- one entry asked for

copied_among : (all : List PlacedEntry) (held : List Held) (x : EntryParts) (place : ℕ) → IsAmong all x → AreAmong all held → AreAmong all (with_copy held x place)
copied_among all held x place is are = all_join (λ (h : Held). IsAmong all h.entry) _ (as_copied place x ∷ [])
    (recursion_from_All (λ h. IsAmong all h.entry) _ (All-filter _ (λ h. IsAmong all h.entry) held (All-from_recursion (λ h. IsAmong all h.entry) held are))) (is, tt)

over : (all : List PlacedEntry) (replace : Bool) (asked : List PlacedEntry) (run final : Run) → run_over replace asked run ≡ Ok final → AllByRecursion (λ x. IsAmong all x.1) asked → AreAmong all run.held → AreAmong all final.held
over all replace = kept_over replace (λ x. IsAmong all x.1) (λ run. AreAmong all run.held) (λ x run is are e. are) (λ x run twin is are e. are) (λ x run places given is are e put. copied_among all run.held x.1 given.0 is are)

-- ---- the entries of the keytab

same_among : (all : List PlacedEntry) (a b : EntryParts) → are_same a b ≡ true → IsAmong all a → IsAmong all b
same_among [] a b same is = absurd cc
same_among (x ∷ xs) a b same is = grind (arith, is, same_among xs a b same, same_equiv.congr a b x.1 same, same_equiv.symm x.1 a, same_equiv.symm x.1 b)

at_place : (all : List PlacedEntry) (k : KeytabState) (held : List Held) (place : ℕ) (e : EntryParts) → AreThere k held → AreAmong all held → list_any (λ h. h.place == place) held ≡ true → entry_at_place k place ≡ Some e → IsAmong all e
at_place all k [] place e there are any read = absurd cc
at_place all k (h ∷ hs) place e there are any read =
    let f = there.0 in
    grind (arith, any, read, f.1, f.2, are.0, eqb-true h.place place, same_among all h.entry e, at_place all k hs place e there.1 are.1)

pub nothing_else : NothingElse
unfolding copy_run
nothing_else replace asked k run fits e place entry read =
    let all = placed_entries k ++ asked in
    let goes = goes_by_its_entries replace asked k run fits e in
    let found = placed_entries k in
    let here = all_mapped (λ y. IsAmong found y.1) (λ y. IsAmong all y.1) found (λ y is. list_any-append (λ x. are_same x.1 y.1) found asked ∙ or_left _ _ is) (own_among found) in
    let asked_are = all_mapped (λ y. IsAmong asked y.1) (λ y. IsAmong all y.1) asked (λ y is. list_any-append (λ x. are_same x.1 y.1) found asked ∙ or_right _ _ is) (own_among asked) in
    let held_are = over all replace asked (run_start k) run e asked_are (found_among all found here) in
    at_place all run.keytab run.held place entry goes.0 held_are (goes.1 place entry read) read
