-- A table and a tree when one more cell is added after the others.
use Rattle.krb_keytab.proofs.Cited.{◌≡◌, ℕ, ◌+◌, ◌-◌, ◌*◌, ◌^◌, ◌<◌, ◌≤◌, false, List, [], ◌∷◌, ◌++◌, length, map, replicate, None, Ok, refl, sym, ap, subst, ◌∙◌, arith, inl, inr, append_assoc, length-append, is_some, pow-suc, cases_lt, append-nil, map-append, replicate-append-replicate, length_of, Order, order_of, end_of, fault_of, fits, with_last, end_after, append_result, Cell, Live, End, end_bytes, kind_of, KeytabState, image_of, store_of, end_place, Slot, free_size, room_of, slots_from, slot_of, SizeTree, IsHeightFor, HasRoomFor, IsGrown, IsIndex, HasSpare, nat_tests, pow_mono, pow_pos, ok_is, whole_of}
use Rattle.krb_keytab.specs.Cells as cells
use Rattle.krb_keytab.proofs.ChangeLemmas.{IsKept, image_len}
use Rattle.krb_keytab.proofs.Cuts.{end_place-append}

-- ---- the height of a tree with one leaf more

-- if the leaves are all taken, the tree is one level higher
pub grown_height : (n h : ℕ) → n ≡ 2 ^ h → IsHeightFor (n + 1) (h + 1)
grown_height n h full =
    let p : 2 ^ (h + 1) ≡ 2 ^ h * 2 = ap (λ (m : ℕ). 2 ^ m) (omega arith) ∙ pow-suc 2 h in
    (omega (arith, p, pow_pos h), λ lower lt. omega (arith, pow_mono {i = lower} {j = h} (omega arith)))

-- else it is as high
same_height : (n h : ℕ) → IsHeightFor n h → n < 2 ^ h → IsHeightFor (n + 1) h
same_height n h is lt = (omega (arith, lt), λ lower less. omega (arith, is.1 lower less))

-- ---- table and tree with a record more

slots_last : (at : ℕ) (cs : List Cell) (c : Cell) → slots_from at (cs ++ (c ∷ [])) ≡ slots_from at cs ++ (slot_of (end_place at cs, c) ∷ [])
slots_last at [] c = refl
slots_last at (x ∷ cs) c = ap (λ (s : List Slot). slot_of (at, x) ∷ s) (slots_last (at + (4 + cells.size x)) cs c)

no_room : (n : ℕ) → n < 2 ^ 31 → room_of (length_of n) ≡ 0
no_room n small = grind (arith, nat_tests)

appended_index : (k : KeytabState) (slots : List Slot) (t u : SizeTree) (bytes : List ℕ) → IsIndex k slots t → IsGrown (length slots) t u → length bytes < 2 ^ 31 → IsIndex (with_last k bytes) (slots ++ (slot_of (end_place 2 k.contents.cells, Live bytes) ∷ [])) u
appended_index k slots t u bytes i grown small =
    let s = slot_of (end_place 2 k.contents.cells, Live bytes) in
    let n = length slots in
    let live : free_size s ≡ 0 = no_room (length bytes) small in
    let len : length (slots ++ (s ∷ [])) ≡ n + 1 = length-append slots (s ∷ []) in
    let more : map free_size (slots ++ (s ∷ [])) ≡ map free_size slots ++ (0 ∷ []) = map-append free_size slots (s ∷ []) ∙ ap (λ (x : ℕ). map free_size slots ++ (x ∷ [])) live in
    let zeros = replicate {A = ℕ} (2 ^ u.height - (n + 1)) 0 in
    let one : (0 ∷ []) ++ zeros ≡ replicate {A = ℕ} (2 ^ u.height - n) 0 =
    replicate-append-replicate 1 (2 ^ u.height - (n + 1)) 0 ∙ ap (λ (m : ℕ). replicate {A = ℕ} m 0) (omega (arith, grown.height.0)) in
    let both : replicate {A = ℕ} (2 ^ t.height - n) 0 ++ replicate {A = ℕ} (2 ^ u.height - 2 ^ t.height) 0 ≡ replicate {A = ℕ} (2 ^ u.height - n) 0 =
    replicate-append-replicate (2 ^ t.height - n) (2 ^ u.height - 2 ^ t.height) 0 ∙ ap (λ (m : ℕ). replicate {A = ℕ} m 0) (omega (arith, pow_mono {i = t.height} {j = u.height} grown.higher, i.height.0)) in
    search (arith, slots_last, append_assoc, s, n, both, len, zeros, more, one)

-- ---- room

-- the image of a keytab without a fault has at most an end mark after an appended record
tail_short : (o : Order) (e : End) → kind_of e ≡ None → length (end_bytes o (end_after e)) ≤ 4
tail_short o e h = grind (arith, nat_tests)

last_end : (k : KeytabState) (bytes : List ℕ) → end_place 2 (with_last k bytes).contents.cells ≡ end_place 2 k.contents.cells + (4 + length bytes)
last_end k bytes = end_place-append 2 k.contents.cells (Live bytes ∷ [])

appended_spare : (k : KeytabState) (bytes : List ℕ) (count room : ℕ) (t : SizeTree) → is_some (fault_of (store_of k)) ≡ false → HasSpare (with_last k bytes) count room t
appended_spare k bytes count room t whole = λ longer.
    absurd (omega (arith, longer, image_len (with_last k bytes), tail_short (order_of k.format) k.contents.end (whole_of (end_of (store_of k)) (kind_of k.contents.end) whole)))

-- if there is no room for one more, the image becomes longer
pub longer_there : (k : KeytabState) (bytes : List ℕ) (count room : ℕ) (t : SizeTree) → 0 < length bytes → HasSpare k count room t → (count < room → HasRoomFor (count + 1) t → ⊥) → length (image_of k) < length (image_of (with_last k bytes))
longer_there k bytes count room t some spare lacks = elim (cases_lt (length (image_of k)) (length (image_of (with_last k bytes)))) [
  | inl lt ↦ lt
  | inr le ↦ let had = spare (omega (arith, le, some, image_len (with_last k bytes), last_end k bytes)) in absurd (lacks had.0 had.1)
]

-- ---- a leaf for one cell more

pub stays_grown : (t : SizeTree) (n : ℕ) → IsHeightFor n t.height → n < 2 ^ t.height → IsGrown n t t
stays_grown t n least lt = search (arith, append-nil, same_height)

pub doubles_grown : (t u : SizeTree) (n : ℕ) → n ≡ 2 ^ t.height → length t.sizes ≡ 2 ^ t.height → u.sizes ≡ t.sizes ++ replicate (length t.sizes) 0 → u.height ≡ t.height + 1 → IsGrown n t u
doubles_grown t u n full len sizes height =
    let p : 2 ^ u.height ≡ 2 ^ t.height * 2 = ap (λ (m : ℕ). 2 ^ m) (omega (arith, height)) ∙ pow-suc 2 t.height in
    search (arith, grown_height, p)

-- table and tree after a record is added after the cells
pub appended_kept : (k new : KeytabState) (x : List ℕ) (slots items : List Slot) (t mid u : SizeTree) (place need count room last more n : ℕ) → IsKept k slots count room t → fault_of (store_of k) ≡ None
    → append_result k x ≡ Ok (end_of (store_of k), with_last k x) → append_result k x ≡ Ok (place, new) → need ≡ length x → length x < 2 ^ 31
    → items ≡ slots → mid.sizes ≡ t.sizes → mid.height ≡ t.height → n ≡ length slots → IsGrown n mid u → IsKept new (items ++ (record { place = place; field = need } ∷ [])) last more u
appended_kept k new x slots items t mid u place need count room last more n kept whole fits gives is small same sizes height counts grown =
    let both = ok_is (place, new) (end_of (store_of k), with_last k x) (sym gives ∙ fits) in
    let index : IsIndex k items mid = record {
      table = same ∙ kept.0.table;
      sizes = sizes ∙ kept.0.sizes ∙ ap (λ (y : List Slot). map free_size y ++ replicate {A = ℕ} (2 ^ t.height - length y) 0) (sym same) ∙ ap (λ (m : ℕ). map free_size items ++ replicate {A = ℕ} (2 ^ m - length items) 0) (sym height);
      height = rw (same, height) kept.0.height;
    } in
    let more_one = subst (λ (m : ℕ). IsGrown m mid u) (counts ∙ ap length (sym same)) grown in
    let done = appended_index k items mid u x index more_one small in
    let slot : record { place = place; field = need } ≡ slot_of (end_place 2 k.contents.cells, Live x) =
    ap (λ (y : ℕ × KeytabState). record { place = y.0; field = need }) both ∙ ap (λ (m : ℕ). record { place = end_place 2 k.contents.cells; field = m }) is in
    let spare : HasSpare (with_last k x) last more u = appended_spare k x last more u (ap is_some whole) in
    let all : IsKept (with_last k x) (items ++ (slot_of (end_place 2 k.contents.cells, Live x) ∷ [])) last more u = (done, spare) in
    subst (λ (y : KeytabState). IsKept y (items ++ (record { place = place; field = need } ∷ [])) last more u) (sym (ap (λ (y : ℕ × KeytabState). y.1) both))
    (subst (λ (s : Slot). IsKept (with_last k x) (items ++ (s ∷ [])) last more u) (sym slot) all)
