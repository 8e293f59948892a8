-- Replacing a cell by another of the same size.
use Rattle.krb_keytab.proofs.Cited.{◌≡◌, ℕ, ◌+◌, ◌<◌, ◌≤◌, true, List, [], ◌∷◌, ◌++◌, length, map, take, drop, Some, refl, sym, ap, subst, ◌∙◌, append_assoc, length-append, arith, inl, inr, flat_map, splice, AllByRecursion, eqb_tells, take_at, drop_at, take-append-drop, length-take, drop-drop, Order, KtFormat, order_of, IsBytes, IsBytes-drop, some_is, record_of_some, bytes_of_some, bytes_from, end_from-ge, CellsEnd, Cell, Live, End, Contents, cell, spelling, contents, IsCell, IsSound, size, ends, IsKnownEnd, IsChanged, store_cell, end_place, PlacedCell, replaced_at, is_hole, first_hole, flat_map-append, all_front, all_back, all_join}
use Rattle.krb_keytab.proofs.CellLemmas.{chosen, contents_spelled, contents_again}
use Rattle.krb_keytab.proofs.Cuts.{cell_len, end_place_is, end_place-append}
use Rattle.krb_keytab.proofs.Splices.{splice-len, splice-behind}

-- ---- where a cell is

-- the cells before and after the one at a place
pub record IsAt (cs : List Cell) (at p : ℕ) (c : Cell) : Type 0 where
  pub front : List Cell
  pub back : List Cell
  pub parts : cs ≡ front ++ (c ∷ back)
  pub place : p ≡ end_place at front

here : (c d : Cell) (cs : List Cell) (at p : ℕ) → p ≡ at → c ≡ d → IsAt (c ∷ cs) at p d
here c d cs at p is same = record { front = []; back = cs; parts = ap (λ (x : Cell). x ∷ cs) same; place = is }

further : (c d : Cell) (cs : List Cell) (at p : ℕ) → IsAt cs (at + (4 + size c)) p d → IsAt (c ∷ cs) at p d
further c d cs at p s = record { front = c ∷ s.front; back = s.back; parts = ap (λ (xs : List Cell). c ∷ xs) s.parts; place = s.place }

is_live : (at : ℕ) (c : Cell) (b : List ℕ) → bytes_of_some (record_of_some (Some (record { place = at; cell = store_cell c }))) ≡ Some b → c ≡ Live b
is_live at c b e = search (arith, some_is)

pub live_is_at : (cs : List Cell) (at p : ℕ) (b : List ℕ) → bytes_from at (map store_cell cs) p ≡ Some b → IsAt cs at p (Live b)
live_is_at [] at p b e = absurd cc
live_is_at (c ∷ cs) at p b e = elim (eqb_tells at p) [
  | inl y ↦ let yes = y.0 in here c (Live b) cs at p (sym y.1) (is_live at c b (rw yes at e))
  | inr n ↦ let no = n.0 in further c (Live b) cs at p (live_is_at cs (at + (4 + size c)) p b (rw no at e))
]

-- the cell there is sound
pub is_at_sound : (f : KtFormat) (cs : List Cell) (at p : ℕ) (c : Cell) → AllByRecursion (IsCell f) cs → IsAt cs at p c → IsCell f c
is_at_sound f cs at p c sound s = (all_back (IsCell f) s.front (c ∷ s.back) (subst (AllByRecursion (IsCell f)) s.parts sound)).0

-- the first hole that is large enough
pub record HoleAt (cs : List Cell) (at n p : ℕ) (c : Cell) : Type 0 where
  pub is_at : IsAt cs at p c
  pub large : is_hole n c ≡ true

pub hole_is_at : (cs : List Cell) (at n p : ℕ) (c : Cell) → first_hole at n cs ≡ Some (p, c) → HoleAt cs at n p c
hole_is_at [] at n p c e = absurd cc
hole_is_at (d ∷ cs) at n p c e =
    elim (chosen (is_hole n d) (Some (at, d)) (first_hole (at + (4 + size d)) n cs) (Some (p, c)) e) [
      | inl h ↦
          let same : ◌≡◌ {A = PlacedCell} (at, d) (p, c) = some_is (at, d) (p, c) h.1 in
          let is_c : d ≡ c = ap (λ (x : PlacedCell). x.1) same in
          record { is_at = here d c cs at p (sym (ap (λ (x : PlacedCell). x.0) same)) is_c; large = ap (is_hole n) (sym is_c) ∙ h.0 }
      | inr h ↦
          let others = hole_is_at cs (at + (4 + size d)) n p c h.1 in
          record { is_at = further d c cs at p others.is_at; large = others.large }
    ]

-- ---- the cells with one replaced

not_replaced : (change : Cell → Cell) (p at : ℕ) (cs : List Cell) → p < at → replaced_at at change p cs ≡ cs
not_replaced change p at [] lt = refl
not_replaced change p at (c ∷ cs) lt = search (arith, not_replaced change p (at + (4 + size c)) cs (omega arith))

replaced_one : (change : Cell → Cell) (at p : ℕ) (front back : List Cell) (c : Cell) → p ≡ end_place at front → replaced_at at change p (front ++ (c ∷ back)) ≡ front ++ (change c ∷ back)
replaced_one change at p [] back c is = search (arith, not_replaced, end_from-ge)
replaced_one change at p (x ∷ front) back c is = search (arith, not_replaced, end_from-ge, replaced_one change (at + (4 + size x)) p front back c is)

-- all cells but the one at the place are unchanged
pub replaced_cells : (change : Cell → Cell) (cs : List Cell) (p : ℕ) (c : Cell) (s : IsAt cs 2 p c) → replaced_at 2 change p cs ≡ s.front ++ (change c ∷ s.back)
replaced_cells change cs p c s = ap (replaced_at 2 change p) s.parts ∙ replaced_one change 2 p s.front s.back c s.place

-- ---- the image

-- the spelling, split around one cell
spelling_cut : (o : Order) (front back : List Cell) (c : Cell) (e : End) → spelling o (record { cells = front ++ (c ∷ back); end = e }) ≡ flat_map (cell o) front ++ (cell o c ++ spelling o (record { cells = back; end = e }))
spelling_cut o front back c e = search (arith, flat_map-append, append_assoc)

-- replacing the bytes in the middle
swap_middle : (h f old new g image : List ℕ) (p n : ℕ) → image ≡ h ++ (f ++ (old ++ g)) → p ≡ length h + length f → n ≡ p + length old → splice image p n new ≡ h ++ (f ++ (new ++ g))
swap_middle h f old new g image p n e place end =
    let grouped : image ≡ (h ++ f) ++ (old ++ g) = e ∙ sym (append_assoc h f (old ++ g)) in
    let len : length (h ++ f) ≡ p = length-append h f ∙ sym place in
    let front : take p image ≡ h ++ f = ap (take p) grouped ∙ take_at (h ++ f) (old ++ g) p len in
    let at_p : drop p image ≡ old ++ g = ap (drop p) grouped ∙ drop_at (h ++ f) (old ++ g) p len in
    let back : drop n image ≡ g = ap (λ (k : ℕ). drop k image) end ∙ sym (drop-drop (length old) p image) ∙ ap (drop (length old)) at_p ∙ drop_at old g (length old) refl in
    rw (front, back) (append_assoc h f (new ++ g))

-- a cell of the image, and one of the same size
pub record IsReplaced (f : KtFormat) (image : List ℕ) (front back : List Cell) (old new : Cell) (e : End) (p : ℕ) : Type 0 where
  pub long : 2 ≤ length image
  pub before : contents f (drop 2 image) ≡ record { cells = front ++ (old ∷ back); end = e }
  pub place : p ≡ end_place 2 front
  pub same_size : size new ≡ size old
  pub sound : IsCell f new

-- the image with the other cell
replaced_bytes : (f : KtFormat) (image : List ℕ) (front back : List Cell) (old new : Cell) (e : End) (p : ℕ) → IsReplaced f image front back old new e p → IsBytes image
    → splice image p (p + 4 + size old) (cell (order_of f) new) ≡ take 2 image ++ spelling (order_of f) (record { cells = front ++ (new ∷ back); end = e })
replaced_bytes f image front back old new e p r fits =
    let o = order_of f in
    let F = flat_map (cell o) front in
    let rest = spelling o (record { cells = back; end = e }) in
    let spelled = contents_spelled f (drop 2 image) (IsBytes-drop 2 image fits) in
    let body : drop 2 image ≡ F ++ (cell o old ++ rest) = spelled.parts ∙ ap (spelling o) r.before ∙ spelling_cut o front back old e in
    let whole : image ≡ take 2 image ++ (F ++ (cell o old ++ rest)) = sym (take-append-drop 2 image) ∙ ap (λ (b : List ℕ). take 2 image ++ b) body in
    let two : length (take 2 image) ≡ 2 = let le = r.long in omega (arith, length-take 2 image) in
    let place : p ≡ length (take 2 image) + length F = let rp = r.place in omega (arith, rp, end_place_is o 2 front, two) in
    let end : p + 4 + size old ≡ p + length (cell o old) = omega (arith, cell_len o old) in
    swap_middle (take 2 image) F (cell o old) (cell o new) rest image p (p + 4 + size old) whole place end ∙ ap (λ (b : List ℕ). take 2 image ++ b) (sym (spelling_cut o front back new e))

-- what is known of the end stays true if the cells still end there and the bytes from there on are the same
known_kept : (f : KtFormat) (image image' : List ℕ) (e : CellsEnd) → IsKnownEnd f image e → end_place 2 (contents f (drop 2 image')).cells ≡ end_place 2 (contents f (drop 2 image)).cells
    → (contents f (drop 2 image')).end ≡ (contents f (drop 2 image)).end → length image' ≡ length image → drop e.place image' ≡ drop e.place image → IsKnownEnd f image' e
known_kept f image image' e known place end len tail = search (arith, ends)

-- the contents with the other cell
pub replaced : (f : KtFormat) (image image' : List ℕ) (front back : List Cell) (old new : Cell) (e : End) (p : ℕ) (end : CellsEnd) → IsReplaced f image front back old new e p → IsBytes image → IsBytes image' → IsKnownEnd f image end
    → image' ≡ splice image p (p + 4 + size old) (cell (order_of f) new)
    → IsChanged f image image' (record { cells = front ++ (new ∷ back); end = e }) end
replaced f image image' front back old new e p end r fits fits' known written =
    let o = order_of f in
    let k : Contents = record { cells = front ++ (new ∷ back); end = e } in
    let before : Contents = record { cells = front ++ (old ∷ back); end = e } in
    let bytes : image' ≡ take 2 image ++ spelling o k = written ∙ replaced_bytes f image front back old new e p r fits in
    let two : length (take 2 image) ≡ 2 = let le = r.long in omega (arith, length-take 2 image) in
    let body : drop 2 image' ≡ spelling o k = ap (drop 2) bytes ∙ drop_at (take 2 image) (spelling o k) 2 two in
    let sound : IsSound f before = subst (IsSound f) r.before (contents_spelled f (drop 2 image) (IsBytes-drop 2 image fits)).sound in
    let cells : AllByRecursion (IsCell f) (front ++ (new ∷ back)) = all_join (IsCell f) front (new ∷ back) (all_front (IsCell f) front (old ∷ back) sound.cells) (r.sound, (all_back (IsCell f) front (old ∷ back) sound.cells).1) in
    let fits_k : IsBytes (spelling o k) = subst IsBytes body (IsBytes-drop 2 image' fits') in
    let is : contents f (drop 2 image') ≡ k = ap (contents f) body ∙ contents_again f k (record { cells = cells; end = sound.end }) fits_k in
    let at : p ≡ end_place 2 front = r.place in
    let behind : end_place 2 (front ++ (old ∷ back)) ≡ end_place (p + (4 + size old)) back = end_place-append 2 front (old ∷ back) ∙ ap (λ (n : ℕ). end_place (n + (4 + size old)) back) (sym at) in
    let behind' : end_place 2 (front ++ (new ∷ back)) ≡ end_place (p + (4 + size old)) back = end_place-append 2 front (new ∷ back) ∙ ap (λ (n : ℕ). end_place (n + (4 + size new)) back) (sym at) ∙ ap (λ (n : ℕ). end_place (p + (4 + n)) back) r.same_size in
    let stops : end.place ≡ end_place (p + (4 + size old)) back = sym known.place ∙ ap (λ (x : Contents). end_place 2 x.cells) r.before ∙ behind in
    let last = end_from-ge (p + (4 + size old)) (map store_cell back) in
    let room : p + 4 + size old ≤ length image = omega (arith, stops, last, known.within) in
    let new_len : length (cell o new) ≡ 4 + size old = omega (arith, cell_len o new, r.same_size) in
    search (arith, take_at, known_kept, splice-len, splice-behind, bytes, o, k, two, is, behind', behind, room, new_len, stops, last)
