-- What a look-up finds is a record that can be removed.
use Rattle.krb_keytab.proofs.Cited.{◌≡◌, ℕ, ◌+◌, Bool, true, cond, List, [], ◌∷◌, ◌++◌, map, Option, Some, Ok, Err, length, refl, sym, ap, ◌∙◌, append_assoc, inl, inr, is_some, filter, find, filter_map, AllByRecursion, Parts, bytes_from, Cell, Live, Free, size, KeytabState, store_cell, store_of, end_place, PlacedEntry, is_match, first_or_missing, look_up_in, look_up, find_result, placed_entry, placed_entries, with_hole, cut_result, arith, nat_tests}
use Rattle.krb_walk.specs.declared.refusal.Code.TheVariants.{Damaged, NotLive}
use Rattle.krb_walk.specs.Store.{fault_of, live_bytes as store_bytes, standing, record_of}
use Rattle.krb_keytab.proofs.CellLemmas.{chosen}
use Rattle.krb_keytab.proofs.Cuts.{end_place-append, live_there}

-- a record starts at the place
abbrev IsLiveAt : KeytabState → PlacedEntry → Type 0
IsLiveAt k x = is_some (store_bytes (store_of k) x.0) ≡ true

-- ---- lists

all_filter : {X : Type 0} (P : X → Type 0) (test : X → Bool) (xs : List X) → AllByRecursion P xs → AllByRecursion P (filter test xs)
all_filter P test [] all = tt
all_filter P test (x ∷ xs) all = search (arith, all_filter P test xs all.1)

all_find : {X : Type 0} (P : X → Type 0) (test : X → Bool) (xs : List X) (y : X) → AllByRecursion P xs → find test xs ≡ Some y → P y
all_find P test [] y all e = absurd cc
all_find P test (x ∷ xs) y all e = grind (arith, nat_tests, all_find P test xs y all.1)

-- ---- entries

-- a live cell after others holds its bytes in the store
pub holds : (k : KeytabState) (front back : List Cell) (b : List ℕ) (p : ℕ) → k.contents.cells ≡ front ++ (Live b ∷ back) → p ≡ end_place 2 front → store_bytes (store_of k) p ≡ Some b
holds k front back b p parts place = ap (λ (cs : List Cell). bytes_from 2 (map store_cell cs) p) parts ∙ live_there front back (Live b) p place

-- the place after one more cell
next_place : (front : List Cell) (c : Cell) (p : ℕ) → p ≡ end_place 2 front → p + (4 + size c) ≡ end_place 2 (front ++ c ∷ [])
next_place front c p place = ap (λ (n : ℕ). n + (4 + size c)) place ∙ sym (end_place-append 2 front (c ∷ []))

-- the entries of the cells from one on are at live places
all_live : (k : KeytabState) (front cs : List Cell) (p : ℕ) → k.contents.cells ≡ front ++ cs → p ≡ end_place 2 front → AllByRecursion (IsLiveAt k) (filter_map (placed_entry k) (filter_map record_of (standing p (map store_cell cs))))
all_live k front [] p parts place = tt
all_live k front (Live b ∷ cs) p parts place = search (arith, append_assoc, end_place-append, holds, all_live k (front ++ Live b ∷ []) cs (p + (4 + length b)) (parts ∙ sym (append_assoc front (Live b ∷ []) cs)) (next_place front (Live b) p place))
all_live k front (Free b ∷ cs) p parts place = search (arith, append_assoc, end_place-append, holds, all_live k (front ++ Free b ∷ []) cs (p + (4 + length b)) (parts ∙ sym (append_assoc front (Free b ∷ []) cs)) (next_place front (Free b) p place))

some_found : (o : Option PlacedEntry) (x : PlacedEntry) → first_or_missing o ≡ Ok x → o ≡ Some x
some_found o x e = search arith

found_live : (k : KeytabState) (v : ℕ) (xs : List PlacedEntry) (x : PlacedEntry) → AllByRecursion (IsLiveAt k) xs → look_up_in v xs ≡ Ok x → IsLiveAt k x
found_live k v xs x all e = search (arith, all_find, some_found)

-- the record that was found is removed
pub found_is_cut : (k : KeytabState) (n : Parts) (v t : ℕ) (x : PlacedEntry) → find_result k n v t ≡ Ok x → cut_result k x.0 ≡ Ok (with_hole k x.0)
found_is_cut k n v t x e =
    elim (chosen (is_some (fault_of (store_of k))) (Err Damaged) (look_up k n v t) (Ok x) e) [
      | inl h ↦ absurd (let no = h.1 in cc)
      | inr h ↦
          let all = all_filter (IsLiveAt k) (is_match n t) (placed_entries k) (all_live k [] k.contents.cells 2 refl refl) in
          let live : is_some (store_bytes (store_of k) x.0) ≡ true = found_live k v (filter (is_match n t) (placed_entries k)) x all h.1 in
          ap (λ (b : Bool). cond b (Err Damaged) (cond (is_some (store_bytes (store_of k) x.0)) (Ok (with_hole k x.0)) (Err NotLive))) h.0
          ∙ ap (λ (b : Bool). cond b (Ok (with_hole k x.0)) (Err NotLive)) live
    ]
