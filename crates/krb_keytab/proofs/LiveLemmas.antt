-- The slot of one cell among others, and the live cell with a number.
use Rattle.krb_keytab.proofs.Cited.{◌≡◌, ◌≢◌, ℕ, zero, suc, ◌+◌, ◌<◌, ◌≤◌, true, false, List, [], ◌∷◌, ◌++◌, length, map, take, drop, get_or, Option, None, refl, sym, ap, subst, ◌∙◌, arith, length-append, IsSome, AllByRecursion, set, cases_lt, take_at, take_all, append-nil, KtFormat, is_some_has, bytes_from, Cell, Live, Free, IsCell, IsSound, KeytabState, store_of, store_cell, end_place, Slot, is_free, slots_from, slot_of, places, IsRank, slot_at, IsLiveNumber, nat_tests, set-append_seam, get_or-append_seam, drop-cons, All-from_recursion, bytes_ahead, live_is_place}
use Rattle.krb_walk.specs.Store.{Cell as StoreCell, live_bytes}
use Rattle.krb_keytab.specs.Cells as cells
use Rattle.krb_keytab.proofs.Cuts.{live_there, store_sound}
use Rattle.krb_keytab.proofs.Replacements.{IsAt, live_is_at, is_at_sound as sound_there}
use Rattle.krb_keytab.proofs.PlaceLemmas.{slots_len, cells_at_rank, end_rises}
use Rattle.krb_keytab.proofs.IndexLemmas.{slot_place, at_rank}

-- ---- the slot of one cell among others

slots_parts : (at : ℕ) (front back : List Cell) (c : Cell) → slots_from at (front ++ (c ∷ back)) ≡ slots_from at front ++ (slot_of (end_place at front, c) ∷ slots_from (end_place at front + (4 + cells.size c)) back)
slots_parts at [] back c = refl
slots_parts at (x ∷ front) back c = ap (λ (s : List Slot). slot_of (at, x) ∷ s) (slots_parts (at + (4 + cells.size x)) front back c)

-- another cell of its size changes this slot alone
pub set_slot : (at : ℕ) (front back : List Cell) (c d : Cell) → cells.size d ≡ cells.size c → slots_from at (front ++ (d ∷ back)) ≡ set (slots_from at (front ++ (c ∷ back))) (length front) (slot_of (end_place at front, d))
set_slot at front back c d same = search (arith, slots_parts, set, slots_len, set-append_seam)

slot_seam : (k : KeytabState) (front back : List Cell) (c : Cell) → k.contents.cells ≡ front ++ (c ∷ back) → slot_at k (length front) ≡ slot_of (end_place 2 front, c)
slot_seam k front back c parts = search (arith, slots_parts, slots_len, get_or-append_seam)

-- a prefix of the cells that ends where the first i end has i cells
pub number_is : (cs front rest : List Cell) (i : ℕ) → cs ≡ front ++ rest → i < length cs → end_place 2 front ≡ end_place 2 (take i cs) → length front ≡ i
number_is cs front rest i parts lt same =
    let n = length front in
    let is : take n cs ≡ front = ap (take n) parts ∙ take_at front rest n refl in
    let ends : end_place 2 (take n cs) ≡ end_place 2 (take i cs) = ap (end_place 2) is ∙ same in
    let within : n ≤ length cs = omega (arith, ap length parts, length-append front rest) in
    search (arith, cases_lt, end_rises, n, ends, within)

-- ---- the live cell at a place

pub none_of : (o : Option (List ℕ)) → (IsSome o → ⊥) → o ≡ None
none_of o h = search arith

free_none : (f : KtFormat) (c : Cell) (p : ℕ) → IsCell f c → is_free (slot_of (p, c)) ≡ true → (store_cell c).live ≡ None
free_none f c p sound h = grind (arith, nat_tests)

live_some : (f : KtFormat) (c : Cell) (p : ℕ) → IsCell f c → is_free (slot_of (p, c)) ≡ false → IsSome (store_cell c).live
live_some f c p sound h = grind (arith, nat_tests)

-- the slot of the cell with a number
slot_is : (at : ℕ) (cs : List Cell) (i : ℕ) (d : Cell) (e : Slot) → i < length cs → get_or (slots_from at cs) i e ≡ slot_of (end_place at (take i cs), get_or cs i d)
slot_is at [] i d e lt = absurd (omega arith)
slot_is at (c ∷ cs) zero d e lt = refl
slot_is at (c ∷ cs) (suc i) d e lt = slot_is (at + (4 + cells.size c)) cs i d e (omega arith)

sound_at : (f : KtFormat) (cs : List Cell) (i : ℕ) (d : Cell) → AllByRecursion (IsCell f) cs → i < length cs → IsCell f (get_or cs i d)
sound_at f cs i d all lt = All-from_recursion (IsCell f) cs all i d lt

-- the place of a live cell is where the cells before its rank end
live_here : (k : KeytabState) (p rank : ℕ) → IsRank (places (slots_from 2 k.contents.cells)) p rank → IsSome (live_bytes (store_of k) p) → p ≡ end_place 2 (take rank k.contents.cells)
live_here k p rank r some = at_rank k p rank r (live_is_place (store_of k) p some)

pub live_after_all : (k : KeytabState) (p rank : ℕ) → IsRank (places (slots_from 2 k.contents.cells)) p rank → length k.contents.cells ≤ rank → live_bytes (store_of k) p ≡ None
live_after_all k p rank r le = none_of (live_bytes (store_of k) p) (λ some.
    let cs = k.contents.cells in
    let at_end : p ≡ end_place 2 cs = live_here k p rank r some ∙ ap (end_place 2) (take_all rank cs le) in
    let none : live_bytes (store_of k) p ≡ None = ap (λ (xs : List StoreCell). bytes_from 2 xs p) (sym (append-nil (map store_cell cs))) ∙ bytes_ahead 2 p (map store_cell cs) [] (store_sound cs) (omega (arith, at_end)) in
    absurd (cc (none, some)))

pub live_elsewhere : (k : KeytabState) (p rank : ℕ) → IsRank (places (slots_from 2 k.contents.cells)) p rank → rank < length k.contents.cells → (slot_at k rank).place ≢ p → live_bytes (store_of k) p ≡ None
live_elsewhere k p rank r lt ne = none_of (live_bytes (store_of k) p) (λ some. ne (slot_place k rank lt ∙ sym (live_here k p rank r some)))

-- the bytes of the cell with a rank
pub live_is : (k : KeytabState) (p rank : ℕ) (d : Cell) → rank < length k.contents.cells → (slot_at k rank).place ≡ p → live_bytes (store_of k) p ≡ (store_cell (get_or k.contents.cells rank d)).live
live_is k p rank d lt is =
    let cs = k.contents.cells in
    let parts : cs ≡ take rank cs ++ (get_or cs rank d ∷ drop (suc rank) cs) = cells_at_rank cs rank ∙ ap (λ (xs : List Cell). take rank cs ++ xs) (drop-cons cs rank d lt) in
    ap (λ (xs : List Cell). bytes_from 2 (map store_cell xs) p) parts ∙ live_there (take rank cs) (drop (suc rank) cs) (get_or cs rank d) p (sym is ∙ slot_place k rank lt)

pub live_free : (k : KeytabState) (p rank : ℕ) → IsSound k.format k.contents → rank < length k.contents.cells → (slot_at k rank).place ≡ p → is_free (slot_at k rank) ≡ true → live_bytes (store_of k) p ≡ None
live_free k p rank sound lt is free =
    let cs = k.contents.cells in
    let d = Free [] in
    let slot = slot_is 2 cs rank d (record { place = 0; field = 0 }) lt in
    live_is k p rank d lt is ∙ free_none k.format (get_or cs rank d) (end_place 2 (take rank cs)) (sound_at k.format cs rank d sound.cells lt) (sym (ap is_free slot) ∙ free)

pub live_number : (k : KeytabState) (p rank : ℕ) → IsSound k.format k.contents → rank < length k.contents.cells → (slot_at k rank).place ≡ p → is_free (slot_at k rank) ≡ false → IsLiveNumber k p rank
live_number k p rank sound lt is live =
    let cs = k.contents.cells in
    let d = Free [] in
    let slot = slot_is 2 cs rank d (record { place = 0; field = 0 }) lt in
    record {
      inside = lt;
      place = is;
      live = subst (λ (o : Option (List ℕ)). IsSome o) (sym (live_is k p rank d lt is)) (live_some k.format (get_or cs rank d) (end_place 2 (take rank cs)) (sound_at k.format cs rank d sound.cells lt) (sym (ap is_free slot) ∙ live));
    }

-- the cell with a number, at a place
pub record CellOf (k : KeytabState) (number p : ℕ) (c : Cell) : Type 0 where
  pub is_at : IsAt k.contents.cells 2 p c
  pub count : length is_at.front ≡ number
  pub slot : slot_at k number ≡ slot_of (end_place 2 is_at.front, c)

pub cell_of : (k : KeytabState) (number p : ℕ) (c : Cell) → number < length k.contents.cells → (slot_at k number).place ≡ p → IsAt k.contents.cells 2 p c → CellOf k number p c
cell_of k number p c lt at s =
    let count = number_is k.contents.cells s.front (c ∷ s.back) number s.parts lt (sym s.place ∙ sym at ∙ slot_place k number lt) in
    record { is_at = s; count = count; slot = ap (slot_at k) (sym count) ∙ slot_seam k s.front s.back c s.parts }

-- it has bytes, so that its field is not 0
pub cell_field : (k : KeytabState) (number p : ℕ) (c : Cell) → IsSound k.format k.contents → CellOf k number p c → 0 < (slot_at k number).field
cell_field k number p (Live b) sound s = omega (arith, ap (λ (x : Slot). x.field) s.slot, (sound_there k.format k.contents.cells 2 p (Live b) sound.cells s.is_at).0)
cell_field k number p (Free b) sound s = omega (arith, ap (λ (x : Slot). x.field) s.slot, (sound_there k.format k.contents.cells 2 p (Free b) sound.cells s.is_at).1)

-- a live one
pub record LiveAt (k : KeytabState) (number p : ℕ) : Type 0 where
  pub bytes : List ℕ
  pub cell : CellOf k number p (Live bytes)

pub live_at : (k : KeytabState) (number p : ℕ) → IsLiveNumber k p number → LiveAt k number p
live_at k number p h =
    let b = is_some_has (live_bytes (store_of k) p) h.live in
    record { bytes = b.0; cell = cell_of k number p (Live b.0) h.inside h.place (live_is_at k.contents.cells 2 p b.0 b.1) }
