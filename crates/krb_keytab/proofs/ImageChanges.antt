-- An image after changes to its cells.
use Rattle.krb_keytab.proofs.Cited.{◌≡◌, ℕ, suc, ◌+◌, ◌-◌, ◌^◌, ◌<◌, ◌≤◌, true, List, [], ◌∷◌, ◌++◌, length, drop, replicate, Option, Some, None, refl, sym, ap, ◌∙◌, arith, option_map, IsSome, IfSome, ◌==◌, if◌then◌else◌, splice, KtFormat, order_of, IsBytes, IsBytes-drop, some_is, CellsEnd, Hole, Cell, Live, Free, End, Bare, Contents, cell, next, contents, IsCell, size, live_bytes, end_from-ge, store_of_image, end_place, IsKnownEnd, IsChanged, PlacedCell, placed_cells, replaced_at, zero_hole, is_hole, first_hole, with_zeros, record_in, hole_of, hole_from, IsRecord, length-append, length-map, length-replicate}
use Rattle.krb_cells.specs.Contents.{contents as contents_of, first_cells}
use Rattle.krb_keytab.proofs.CellLemmas.{contents_spelled, sound_size}
use Rattle.krb_keytab.proofs.Cuts.{end_place-append}
use Rattle.krb_keytab.proofs.Replacements.{IsAt, live_is_at, is_at_sound, hole_is_at, replaced_cells, IsReplaced, replaced}

-- the empty list of bytes holds no cells
pub contents_none : (f : KtFormat) → contents f [] ≡ record { cells = []; end = Bare }
unfolding contents contents_of first_cells next
contents_none f = refl

-- replacing a cell keeps the number of cells
pub placed_len : (at : ℕ) (cs : List Cell) → length (placed_cells at cs) ≡ length cs
placed_len at [] = refl
placed_len at (c ∷ cs) = ap suc (placed_len (at + (4 + size c)) cs)

pub as_many : (f : KtFormat) (old new : List ℕ) (change : Cell → Cell) (p : ℕ) (e : End) (end : CellsEnd) → IsChanged f old new (record { cells = replaced_at 2 change p (contents f (drop 2 old)).cells; end = e }) end → length (contents f (drop 2 new)).cells ≡ length (contents f (drop 2 old)).cells
as_many f old new change p e end changed = ap (λ (k : Contents). length k.cells) changed.contents ∙ length-map (placed_cells 2 (contents f (drop 2 old)).cells) (λ (x : PlacedCell). if x.0 == p then change x.1 else x.1) ∙ placed_len 2 (contents f (drop 2 old)).cells

-- a cell ends where the cells do, or before
ends_within : (cs : List Cell) (p : ℕ) (c : Cell) → IsAt cs 2 p c → p + 4 + size c ≤ end_place 2 cs
ends_within cs p c s = search (arith, end_place-append, end_from-ge)

-- what is known of a cell of an image
pub record IsIn (f : KtFormat) (image : List ℕ) (p : ℕ) (c : Cell) : Type 0 where
  pub room : p + 4 + size c ≤ length image
  pub sound : IsCell f c

is_in : (f : KtFormat) (image : List ℕ) (p : ℕ) (c : Cell) (end : CellsEnd) → IsBytes image → IsKnownEnd f image end → IsAt (contents f (drop 2 image)).cells 2 p c → IsIn f image p c
is_in f image p c end fits known s =
    let cs = (contents f (drop 2 image)).cells in
    let sound = (contents_spelled f (drop 2 image) (IsBytes-drop 2 image fits)).sound in
    search (arith, ends_within, is_at_sound, cs, sound)

pub live_in : (f : KtFormat) (image : List ℕ) (p : ℕ) (b : List ℕ) (end : CellsEnd) → IsBytes image → IsKnownEnd f image end → Some b ≡ live_bytes (store_of_image f image) p → IsIn f image p (Live b)
live_in f image p b end fits known live = is_in f image p (Live b) end fits known (live_is_at (contents f (drop 2 image)).cells 2 p b (sym live))

-- the bytes of the record there, and their number
pub bytes_of_size : (o : Option (List ℕ)) (n : ℕ) → IsSome o → IfSome o (λ b. length b ≡ n) → (b : List ℕ) × (Some b ≡ o) × (length b ≡ n)
bytes_of_size o n some len = search arith

-- a cell is replaced by its changed one, which is sound and of its size
changed_is : (f : KtFormat) (image image' : List ℕ) (change : Cell → Cell) (old : Cell) (p : ℕ) (end : CellsEnd) → 2 ≤ length image → IsBytes image → IsBytes image' → IsKnownEnd f image end
    → IsAt (contents f (drop 2 image)).cells 2 p old → size (change old) ≡ size old → IsCell f (change old) → image' ≡ splice image p (p + 4 + size old) (cell (order_of f) (change old))
    → IsChanged f image image' (record { cells = replaced_at 2 change p (contents f (drop 2 image)).cells; end = (contents f (drop 2 image)).end }) end
changed_is f image image' change old p end long fits fits' known s same sound written =
    let k = contents f (drop 2 image) in
    let before : k ≡ record { cells = s.front ++ (old ∷ s.back); end = k.end } = ap (λ (cs : List Cell). record { cells = cs; end = k.end }) s.parts in
    let r : IsReplaced f image s.front s.back old (change old) k.end p = record { long = long; before = before; place = s.place; same_size = same; sound = sound } in
    let done = replaced f image image' s.front s.back old (change old) k.end p end r fits fits' known written in
    search (arith, replaced_cells, done, k)

-- a live cell becomes a hole of zeros
pub freed_is : (f : KtFormat) (image image' b : List ℕ) (p n : ℕ) (end : CellsEnd) → 2 ≤ length image → 0 < n → n ≤ 2 ^ 31 → IsBytes image → IsBytes image' → IsKnownEnd f image end
    → Some b ≡ live_bytes (store_of_image f image) p → n ≡ length b
    → image' ≡ splice image p (p + 4 + n) (cell (order_of f) (Free (replicate {A = ℕ} n 0)))
    → IsChanged f image image' (record { cells = replaced_at 2 zero_hole p (contents f (drop 2 image)).cells; end = (contents f (drop 2 image)).end }) end
freed_is f image image' b p n end long some small fits fits' known live len written =
    let zeros : length (replicate {A = ℕ} (length b) 0) ≡ length b = length-replicate (length b) 0 in
    changed_is f image image' zero_hole (Live b) p end long fits fits' known (live_is_at (contents f (drop 2 image)).cells 2 p b (sym live)) zeros (omega arith, omega arith)
    (written ∙ ap (λ (m : ℕ). splice image p (p + 4 + m) (cell (order_of f) (Free (replicate {A = ℕ} m 0)))) len)

-- ---- the first hole that is large enough

-- what is known of it
pub record HoleIn (f : KtFormat) (image : List ℕ) (n : ℕ) (h : Hole) : Type 0 where
  pub cell : Cell
  pub is_at : IsAt (contents f (drop 2 image)).cells 2 h.place cell
  pub size_is : size cell ≡ h.size
  pub large : n ≤ h.size
  pub some : 0 < h.size
  pub room : h.place + 4 + h.size ≤ length image

hole_large : (n : ℕ) (c : Cell) → is_hole n c ≡ true → n ≤ size c
hole_large n c e = search arith

hole_by : (f : KtFormat) (image : List ℕ) (n : ℕ) (h : Hole) (end : CellsEnd) (o : Option PlacedCell) → IsBytes image → IsKnownEnd f image end → first_hole 2 n (contents f (drop 2 image)).cells ≡ o → option_map hole_of o ≡ Some h → HoleIn f image n h
hole_by f image n h end None fits known is e = absurd cc
hole_by f image n h end (Some x) fits known is e =
    let same : hole_of x ≡ h = some_is (hole_of x) h e in
    let place : x.0 ≡ h.place = ap (λ (y : Hole). y.place) same in
    let is_size : size x.1 ≡ h.size = ap (λ (y : Hole). y.size) same in
    let at = hole_is_at (contents f (drop 2 image)).cells 2 n x.0 x.1 is in
    let inside = is_in f image x.0 x.1 end fits known at.is_at in
    search (arith, hole_large, sound_size, place, at, is_size, inside)

pub hole_in : (f : KtFormat) (image : List ℕ) (n : ℕ) (h : Hole) (end : CellsEnd) → IsBytes image → IsKnownEnd f image end → hole_from 2 n (contents f (drop 2 image)).cells ≡ Some h → HoleIn f image n h
hole_in f image n h end fits known e = hole_by f image n h end (first_hole 2 n (contents f (drop 2 image)).cells) fits known refl e

pub padded_len : (x : List ℕ) (n : ℕ) → length x ≤ n → length (with_zeros x n) ≡ n
padded_len x n le = omega (arith, length-append x (replicate {A = ℕ} (n - length x) 0), length-replicate {A = ℕ} (n - length x) 0)

-- a record takes the hole
pub filled_is : (f : KtFormat) (image image' x : List ℕ) (h : Hole) (end : CellsEnd) → 2 ≤ length image → length image ≤ 2 ^ 30 → IsBytes image → IsBytes image' → IsKnownEnd f image end → IsRecord f x
    → hole_from 2 (length x) (contents f (drop 2 image)).cells ≡ Some h
    → image' ≡ splice image h.place (h.place + 4 + h.size) (cell (order_of f) (Live (with_zeros x h.size)))
    → IsChanged f image image' (record { cells = replaced_at 2 (record_in x) h.place (contents f (drop 2 image)).cells; end = (contents f (drop 2 image)).end }) end
filled_is f image image' x h end long small fits fits' known entry hole written =
    let i = hole_in f image (length x) h end fits known hole in
    let old = i.cell in
    let large = i.large in
    let some = i.some in
    let room = i.room in
    let len : length (with_zeros x (size old)) ≡ size old = padded_len x (size old) (omega arith) in
    changed_is f image image' (record_in x) old h.place end long fits fits' known i.is_at len (omega arith, omega arith, entry (size old - length x))
    (written ∙ ap (λ (m : ℕ). splice image h.place (h.place + 4 + m) (cell (order_of f) (Live (with_zeros x m)))) (sym i.size_is))
