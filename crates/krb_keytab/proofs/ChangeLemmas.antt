-- A table and a tree when one cell is replaced by another of its size.
use Rattle.krb_keytab.proofs.Cited.{◌≡◌, ℕ, ◌+◌, ◌-◌, ◌^◌, ◌<◌, ◌≤◌, true, List, ◌∷◌, ◌++◌, length, map, replicate, Option, Some, None, refl, sym, ap, subst, ◌∙◌, arith, length-append, option_map, set, leb-true, map-set, length-map, length-set, set-append_left, length-replicate, order_of, some_is, replaced_at, hole_of, PlacedCell, first_hole, is_hole, zero_hole, record_in, with_hole, with_record_in, Cell, Live, Free, IsSound, end_bytes, KeytabState, image_of, end_place, Hole, Slot, free_size, slots_from, slot_of, negated, hole_of_slot, SizeTree, IsIndex, HasSpare, slot_at, IsFit, IsLiveNumber}
use Rattle.krb_keytab.specs.Cells as cells
use Rattle.krb_keytab.proofs.Cuts.{end_place_is, end_place-append}
use Rattle.krb_keytab.proofs.Replacements.{IsAt, is_at_sound, hole_is_at, replaced_cells}
use Rattle.krb_keytab.proofs.ImageChanges.{padded_len}
use Rattle.krb_keytab.proofs.PlaceLemmas.{slots_len}
use Rattle.krb_keytab.proofs.LiveLemmas.{CellOf, cell_of, set_slot, live_at}

-- the length of the image
pub image_len : (k : KeytabState) → length (image_of k) ≡ end_place 2 k.contents.cells + length (end_bytes (order_of k.format) k.contents.end)
image_len k = search (arith, end_place_is, length-append)

-- a table and a tree, with their room
abbrev pub IsKept : KeytabState → List Slot → ℕ → ℕ → SizeTree → Type 0
IsKept k slots count room t = IsIndex k slots t × HasSpare k count room t

-- the keytab with the cell at a place changed
abbrev with_cell : KeytabState → (Cell → Cell) → ℕ → KeytabState
with_cell k change p = record k { contents = record { cells = replaced_at 2 change p k.contents.cells; end = k.contents.end } }

-- the cell with this number becomes live if it was free, and free if it was live
turned_kept : (k : KeytabState) (change : Cell → Cell) (slots : List Slot) (t u : SizeTree) (count room number p : ℕ) (c : Cell) (s : CellOf k number p c) → cells.size (change c) ≡ cells.size c
    → negated (slot_of (end_place 2 s.is_at.front, c)) ≡ slot_of (end_place 2 s.is_at.front, change c) → IsKept k slots count room t → u.sizes ≡ set t.sizes number (free_size (negated (slot_at k number))) → u.height ≡ t.height → u.room ≡ t.room
    → IsKept (with_cell k change p) (set slots number (negated (slot_at k number))) count room u
turned_kept k change slots t u count room number p c s same turns kept sizes height rooms =
    let front = s.is_at.front in
    let back = s.is_at.back in
    let cells_are : replaced_at 2 change p k.contents.cells ≡ front ++ (change c ∷ back) = replaced_cells change k.contents.cells p c s.is_at in
    let x = negated (slot_at k number) in
    let slot : x ≡ slot_of (end_place 2 front, change c) = ap negated s.slot ∙ turns in
    let len : length (set slots number x) ≡ length slots = length-set slots number x in
    let inside : number < length slots = omega (arith, s.count, ap length kept.0.table, slots_len 2 k.contents.cells, ap length s.is_at.parts, length-append front (c ∷ back)) in
    let spare = 2 ^ t.height - length slots in
    let ends : end_place 2 (replaced_at 2 change p k.contents.cells) ≡ end_place 2 k.contents.cells =
    ap (end_place 2) cells_are ∙ end_place-append 2 front (change c ∷ back) ∙ ap (λ (n : ℕ). end_place (end_place 2 front + (4 + n)) back) same ∙ sym (ap (end_place 2) s.is_at.parts ∙ end_place-append 2 front (c ∷ back)) in (
      record {
        table = ap (λ (y : Slot). set slots number y) slot ∙ ap (λ (y : List Slot). set y number (slot_of (end_place 2 front, change c))) (kept.0.table ∙ ap (slots_from 2) s.is_at.parts)
            ∙ ap (λ (n : ℕ). set (slots_from 2 (front ++ (c ∷ back))) n (slot_of (end_place 2 front, change c))) (sym s.count) ∙ sym (set_slot 2 front back c (change c) same) ∙ ap (slots_from 2) (sym cells_are);
        sizes = sizes ∙ ap (λ (y : List ℕ). set y number (free_size x)) kept.0.sizes
            ∙ set-append_left (map free_size slots) (replicate spare 0) number (free_size x) (omega (arith, inside, length-map slots free_size))
            ∙ ap (λ (y : List ℕ). y ++ replicate spare 0) (sym (map-set free_size slots number x))
            ∙ ap (λ (n : ℕ). map free_size (set slots number x) ++ replicate n 0) (omega (arith, len, ap (λ (h : ℕ). 2 ^ h) height));
        height = rw (len, height) kept.0.height;
      },
      λ longer.
          let had = kept.1 (omega (arith, longer, ends, image_len k, image_len (with_cell k change p))) in
          (had.0, λ h least. omega (arith, had.1 h least, rooms)),
    )

-- the live cell with this number becomes a hole
pub freed_kept : (k : KeytabState) (slots : List Slot) (t u : SizeTree) (count room number place : ℕ) → IsLiveNumber k place number → IsKept k slots count room t → u.sizes ≡ set t.sizes number (free_size (negated (slot_at k number))) → u.height ≡ t.height → u.room ≡ t.room
    → IsKept (with_hole k place) (set slots number (negated (slot_at k number))) count room u
freed_kept k slots t u count room number place h =
    let l = live_at k number place h in
    let same : cells.size (zero_hole (Live l.bytes)) ≡ length l.bytes = length-replicate {A = ℕ} (length l.bytes) 0 in
    turned_kept k zero_hole slots t u count room number place (Live l.bytes) l.cell same (ap (λ (n : ℕ). record { place = end_place 2 l.cell.is_at.front; field = 2 ^ 32 - n }) (sym same))

-- ---- the hole of a number

pub record HoleOf (k : KeytabState) (need number : ℕ) : Type 0 where
  pub bytes : List ℕ
  pub cell : CellOf k number (slot_at k number).place (Free bytes)
  pub large : need ≤ length bytes

hole_by : (k : KeytabState) (need number p : ℕ) (c : Cell) → number < length k.contents.cells → p ≡ (slot_at k number).place → IsAt k.contents.cells 2 p c → is_hole need c ≡ true → HoleOf k need number
hole_by k need number p (Live b) lt is s large = absurd cc
hole_by k need number p (Free b) lt is s large =
    record { bytes = b; cell = cell_of k number (slot_at k number).place (Free b) lt refl (subst (λ (n : ℕ). IsAt k.contents.cells 2 n (Free b)) is s); large = leb-true _ _ large }

hole_from_first : (k : KeytabState) (need number : ℕ) (o : Option PlacedCell) → number < length k.contents.cells → first_hole 2 need k.contents.cells ≡ o → option_map hole_of o ≡ Some (hole_of_slot (slot_at k number)) → HoleOf k need number
hole_from_first k need number None lt is e = absurd cc
hole_from_first k need number (Some x) lt is e =
    let h = hole_is_at k.contents.cells 2 need x.0 x.1 is in
    hole_by k need number x.0 x.1 lt (ap (λ (y : Hole). y.place) (some_is (hole_of x) (hole_of_slot (slot_at k number)) e)) h.is_at h.large

pub hole_at : (k : KeytabState) (need number : ℕ) → IsFit k need (Some number) → HoleOf k need number
hole_at k need number fit = hole_from_first k need number (first_hole 2 need k.contents.cells) fit.0 refl fit.1

-- the hole with this number takes a record
pub filled_kept : (k : KeytabState) (slots : List Slot) (t u : SizeTree) (count room number : ℕ) (bytes : List ℕ) → IsSound k.format k.contents → IsFit k (length bytes) (Some number) → IsKept k slots count room t → u.sizes ≡ set t.sizes number (free_size (negated (slot_at k number))) → u.height ≡ t.height → u.room ≡ t.room
    → IsKept (with_record_in k bytes (slot_at k number).place) (set slots number (negated (slot_at k number))) count room u
filled_kept k slots t u count room number bytes sound fit =
    let h = hole_at k (length bytes) number fit in
    let place = (slot_at k number).place in
    let old = Free h.bytes in
    let small = (is_at_sound k.format k.contents.cells 2 place old sound.cells h.cell.is_at).1 in
    let same : cells.size (record_in bytes old) ≡ length h.bytes = padded_len bytes (length h.bytes) h.large in
    let back_again : 2 ^ 32 - (2 ^ 32 - length h.bytes) ≡ cells.size (record_in bytes old) = omega (arith, small, same) in
    turned_kept k (record_in bytes) slots t u count room number place old h.cell same (ap (λ (n : ℕ). record { place = end_place 2 h.cell.is_at.front; field = n }) back_again)
