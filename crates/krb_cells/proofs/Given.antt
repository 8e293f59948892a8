-- Each cell of an image holds in its first four bytes the place that it goes to.
use Rattle.krb_cells.proofs.Cited.{◌≡◌, ℕ, ◌+◌, ◌-◌, ◌<◌, ◌≤◌, true, false, eqb, List, [], ◌∷◌, ◌++◌, length, take, drop, Bool, Option, Some, None, inl, inr, refl, sym, ap, subst, ◌∙◌, append_assoc, arith, nat_le, is_some, option_copied, splice, eqb_tells, nat_tests, wide32, Cell, Store, end_from, is_place_from, HasCells, AreCells, between, new_width, new_after, Passes, new_place, AreGiven}
use Rattle.std.specs.Borrow.{Bor}
use Rattle.std.specs.Int.{w32}
use Rattle.std.proofs.lemmas.Bool.{ne_eqb, cases_lt}
use Rattle.std.proofs.lemmas.List.{take_at, drop_at, take-append-le, drop-append-le, drop-take, take-take, length-take, length-drop, length-append, drop-drop}
use Rattle.krb_wire.specs.declared.format.Order.TheVariants.{Big}
use Rattle.krb_wire.specs.Spelling.{digits}
use Rattle.krb_cells.specs.declared.cells.CellView.{CellView}
use Rattle.krb_cells.specs.Cells.{GivesCell}

-- ---- places of cells

pub place_ge : (at : ℕ) (cs : List Cell) (p : ℕ) → is_place_from at cs p ≡ true → at ≤ p
place_ge at [] p h = search (arith, eqb_tells)
place_ge at (c ∷ cs) p h = grind (arith, nat_tests, place_ge (at + c.width) cs p)

place_past : (at : ℕ) (c : Cell) (cs : List Cell) (p : ℕ) → at < p → is_place_from at (c ∷ cs) p ≡ is_place_from (at + c.width) cs p
place_past at c cs p lt = let no : eqb at p ≡ false = ne_eqb at p (λ e. omega (arith, lt, e)) in rw no refl

-- no place is within a cell
not_within : (at : ℕ) (c : Cell) (cs : List Cell) (p : ℕ) → is_place_from at (c ∷ cs) p ≡ true → p < at + c.width → p ≡ at
not_within at c cs p h lt = search (arith, eqb_tells, place_ge)

goes_past : (at : ℕ) (c : Cell) (cs : List Cell) (to : ℕ) (ds : List Cell) (p : ℕ) → at < p → new_place at (c ∷ cs) to ds p ≡ new_place (at + c.width) cs (to + new_width (is_some c.live) ds) (new_after (is_some c.live) ds) p
goes_past at c cs to ds p lt = let no : nat_le p at ≡ false = grind (arith, nat_tests) in rw no refl

goes_here : (at : ℕ) (cs : List Cell) (to : ℕ) (ds : List Cell) → new_place at cs to ds at ≡ to
goes_here at [] to ds = refl
goes_here at (c ∷ cs) to ds = let yes : nat_le at at ≡ true = grind (arith, nat_tests) in rw yes refl

-- passing a new cell keeps the end of the new cells
pub end_after : (live : Bool) (to : ℕ) (ds : List Cell) → end_from (to + new_width live ds) (new_after live ds) ≡ end_from to ds
end_after false to ds = let same : to + 0 ≡ to = omega arith in ap (λ (n : ℕ). end_from n ds) same
end_after true to [] = let same : to + 0 ≡ to = omega arith in same
end_after true to (d ∷ ds) = refl

-- ---- bytes

pub drop_more : (xs ys : List ℕ) (at n : ℕ) → drop at xs ≡ drop at ys → at ≤ n → drop n xs ≡ drop n ys
drop_more xs ys at n same le =
    let is : (n - at) + at ≡ n = omega arith in
    let is2 : at + (n - at) ≡ n = omega arith in
    ap (λ (m : ℕ). drop m xs) (sym is2) ∙ sym (drop-drop (n - at) at xs) ∙ ap (drop (n - at)) same ∙ drop-drop (n - at) at ys ∙ ap (λ (m : ℕ). drop m ys) is2

-- a number was written at a place, in four bytes
pub put_four : (xs put : List ℕ) (at end n : ℕ) → put ≡ splice xs at end (digits Big w32 n) → end ≡ at + 4 → put ≡ splice xs at (at + 4) (digits Big w32 n)
put_four xs put at end n wrote is_end = wrote ∙ ap (λ (m : ℕ). splice xs at m (digits Big w32 n)) is_end

-- the number is there
put_here : (xs : List ℕ) (at n : ℕ) → at + 4 ≤ length xs → take 4 (drop at (splice xs at (at + 4) (digits Big w32 n))) ≡ digits Big w32 n
put_here xs at n le = search (arith, drop_at, length-take, take_at, wide32)

-- the bytes before it are unchanged
put_before : (xs d : List ℕ) (at p : ℕ) → at ≤ length xs → p + 4 ≤ at → take 4 (drop p (splice xs at (at + 4) d)) ≡ take 4 (drop p xs)
put_before xs d at p le lt =
    let len : length (take at xs) ≡ at = omega (arith, length-take at xs) in
    let is : p + (at - p) ≡ at = omega arith in
    let cut : drop p (take at xs) ≡ take (at - p) (drop p xs) = ap (λ (m : ℕ). drop p (take m xs)) (sym is) ∙ drop-take p (at - p) xs in
    ap (take 4) (drop-append-le p (take at xs) (d ++ drop (at + 4) xs) (omega (arith, len)))
    ∙ take-append-le 4 (drop p (take at xs)) (d ++ drop (at + 4) xs) (omega (arith, len, length-drop p (take at xs)))
    ∙ ap (take 4) cut ∙ take-take 4 (at - p) (drop p xs) (omega arith)

-- so are the bytes after it
pub put_behind : (xs put : List ℕ) (at n m : ℕ) → at ≤ length xs → at + 4 ≤ n → put ≡ splice xs at (at + 4) (digits Big w32 m) → drop n put ≡ drop n xs
put_behind xs put at n m le more wrote =
    let d = digits Big w32 m in
    let front = take at xs ++ d in
    let len : length front ≡ at + 4 = omega (arith, length-append (take at xs) d, length-take at xs, (wide32 Big).len m) in
    let grouped : put ≡ front ++ drop (at + 4) xs = wrote ∙ sym (append_assoc (take at xs) d (drop (at + 4) xs)) in
    drop_more put xs (at + 4) n (ap (drop (at + 4)) grouped ∙ drop_at front (drop (at + 4) xs) (at + 4) len) more

-- ---- the cells before a place were given theirs: of all from first on those from at on are left

pub record IsGivenTo (all news : List Cell) (first start : ℕ) (image : List ℕ) (cs ds : List Cell) (at to : ℕ) : Type 0 where
  pub within : at ≤ length image
  pub end : end_from first all ≡ end_from at cs
  pub last : end_from start news ≡ end_from to ds
  pub left : (p : ℕ) → at ≤ p → is_place_from first all p ≡ is_place_from at cs p
  pub same : (p : ℕ) → at ≤ p → new_place first all start news p ≡ new_place at cs to ds p
  pub before : (p : ℕ) → is_place_from first all p ≡ true → p < at → p + 4 ≤ at
  pub encoded : (p : ℕ) → is_place_from first all p ≡ true → p < at → take 4 (drop p image) ≡ digits Big w32 (new_place first all start news p)

given_first : (cs ds : List Cell) (first start : ℕ) (image : List ℕ) → first ≤ length image → IsGivenTo cs ds first start image cs ds first start
given_first cs ds first start image le = search (arith, place_ge)

-- one more cell
given_next : (all news : List Cell) (first start : ℕ) (image put : List ℕ) (c : Cell) (cs ds : List Cell) (at to : ℕ) → IsGivenTo all news first start image (c ∷ cs) ds at to → 4 ≤ c.width → at + c.width ≤ length image
    → put ≡ splice image at (at + 4) (digits Big w32 to) → length put ≡ length image → IsGivenTo all news first start put cs (new_after (is_some c.live) ds) (at + c.width) (to + new_width (is_some c.live) ds)
given_next all news first start image put c cs ds at to g wide room wrote len =
    let not_in : (p : ℕ) → is_place_from first all p ≡ true → at ≤ p → p < at + c.width → p ≡ at = λ p h le lt. not_within at c cs p (sym (g.left p le) ∙ h) lt in
    let goes : new_place first all start news at ≡ to = g.same at (omega arith) ∙ goes_here at (c ∷ cs) to ds in
    let new_encoded : take 4 (drop at put) ≡ digits Big w32 (new_place first all start news at) =
    ap (λ (b : List ℕ). take 4 (drop at b)) wrote ∙ put_here image at to (omega (arith, room, wide)) ∙ ap (digits Big w32) (sym goes) in
    record {
      within = omega (arith, room, len);
      end = g.end;
      last = g.last ∙ sym (end_after (is_some c.live) to ds);
      left = λ p le. g.left p (omega (arith, le)) ∙ place_past at c cs p (omega (arith, le, wide));
      same = λ p le. g.same p (omega (arith, le)) ∙ goes_past at c cs to ds p (omega (arith, le, wide));
      before = λ p h lt. elim (cases_lt p at) [
        | inl less ↦ omega (arith, g.before p h less, wide)
        | inr ge ↦ omega (arith, not_in p h ge lt, wide)
      ];
      encoded = λ p h lt. elim (cases_lt p at) [
        | inl less ↦ ap (λ (b : List ℕ). take 4 (drop p b)) wrote ∙ put_before image (digits Big w32 to) at p g.within (g.before p h less) ∙ g.encoded p h less
        | inr ge ↦ subst (λ (q : ℕ). take 4 (drop q put) ≡ digits Big w32 (new_place first all start news q)) (sym (not_in p h ge lt)) new_encoded
      ];
    }

-- ---- the new cells

-- for a live cell, the first new cell is passed
pub next_passed : (old new : Store) (o : Option (ℕ × CellView)) → GivesCell old o new → (new.first ≡ old.first + new_width true old.cells) × (new.cells ≡ new_after true old.cells)
next_passed old new None g = search arith
next_passed old new (Some x) g = search arith

-- a cell is passed
pub passes : (cells : List ℕ → List Cell) (bytes : List ℕ) (c : Cell) (old new : Store) (live : Bool) → cells bytes ≡ c ∷ cells (drop c.width bytes) → is_some c.live ≡ live → (new.first ≡ old.first + new_width live old.cells) × (new.cells ≡ new_after live old.cells)
    → Passes cells bytes old c.width new
passes cells bytes c old new live parts is next = search arith

pub copied_some : (o : Option (Bor (List ℕ))) → is_some (option_copied o) ≡ is_some o
copied_some (Some b) = refl
copied_some None = refl

-- ---- the cells of an image between two places

-- cells before a place hold where they go, and those from it on are unchanged
pub record IsGivenIn (cells : List ℕ → List Cell) (all : List Cell) (news : Store) (first end : ℕ) (image : List ℕ) (left : Store) (at to : ℕ) : Type 0 where
  pub ahead : at ≤ end
  pub within : end ≤ length image
  pub are : AreCells cells (between at end image)
  pub is_to : to ≡ left.first
  pub given : IsGivenTo all news.cells first news.first image (cells (between at end image)) left.cells at to

-- at first no cell was written
pub none_given : (cells : List ℕ → List Cell) (news : Store) (first end : ℕ) (image : List ℕ) (to : ℕ) → first ≤ end → end ≤ length image → AreCells cells (between first end image) → to ≡ news.first
    → IsGivenIn cells (cells (between first end image)) news first end image news first to
none_given cells news first end image to ahead within are is_to = rw is_to (
    record {
      ahead = ahead;
      within = within;
      are = are;
      is_to = refl;
      given = given_first (cells (between first end image)) news.cells first news.first image (omega (arith, ahead, within));
    }
    )

-- the cell at a place
pub record IsAt (cells : List ℕ → List Cell) (image : List ℕ) (at end : ℕ) (c : Cell) : Type 0 where
  pub wide : 4 ≤ c.width
  pub room : at + c.width ≤ end
  pub parts : cells (between at end image) ≡ c ∷ cells (between (at + c.width) end image)
  pub others : AreCells cells (between (at + c.width) end image)

pub is_at_place : (cells : List ℕ → List Cell) (image : List ℕ) (at end : ℕ) (c : Cell) → at ≤ end → end ≤ length image → AreCells cells (between at end image) → cells (between at end image) ≡ c ∷ cells (drop c.width (between at end image)) → IsAt cells image at end c
is_at_place cells image at end c ahead within are first =
    let bytes = between at end image in
    let has : HasCells cells bytes (c ∷ cells (drop c.width bytes)) = subst (HasCells cells bytes) first are in
    let room : at + c.width ≤ end = omega (arith, has.1, ahead, within, length-take (end - at) (drop at image), length-drop at image) in
    let sum : end - at ≡ c.width + (end - (at + c.width)) = omega (arith, room) in
    let same : drop c.width bytes ≡ between (at + c.width) end image =
    ap (λ (n : ℕ). drop c.width (take n (drop at image))) sum ∙ drop-take c.width (end - (at + c.width)) (drop at image) ∙ ap (take (end - (at + c.width))) (drop-drop c.width at image) in
    search (arith, has, room, same)

-- then the cell at the place gets where it goes
pub one_given : (cells : List ℕ → List Cell) (all : List Cell) (news : Store) (first end : ℕ) (image put bytes : List ℕ) (old left : Store) (at to w n next : ℕ) → IsGivenIn cells all news first end image old at to → bytes ≡ between at end image → Passes cells bytes old w left
    → put ≡ splice image at n (digits Big w32 to) → n ≡ at + 4 → length put ≡ length image → next ≡ left.first → IsGivenIn cells all news first end put left (at + w) next
one_given cells all news first end image put bytes old left at to w n next g is y wrote is_n len is_next =
    let x = subst (λ (b : List ℕ). Passes cells b old w left) is y in
    let c = x.cell in
    let s = is_at_place cells image at end c g.ahead g.within g.are x.parts in
    let four = put_four image put at n to wrote is_n in
    let behind : between (at + c.width) end put ≡ between (at + c.width) end image = ap (take (end - (at + c.width))) (put_behind image put at (at + c.width) to (omega (arith, g.ahead, g.within)) (omega (arith, s.wide)) four) in
    let more = given_next all news.cells first news.first image put c (cells (between (at + c.width) end image)) old.cells at to
    (subst (λ (cs : List Cell). IsGivenTo all news.cells first news.first image cs old.cells at to) s.parts g.given) s.wide (omega (arith, s.room, g.within)) four len in
    let goes : to + new_width (is_some c.live) old.cells ≡ left.first = ap (λ (m : ℕ). m + new_width (is_some c.live) old.cells) g.is_to ∙ sym x.first in
    rw (x.is_width, is_next) (record {
      ahead = s.room;
      within = omega (arith, g.within, len);
      are = subst (AreCells cells) (sym behind) s.others;
      is_to = refl;
      given = subst (λ (b : List ℕ). IsGivenTo all news.cells first news.first put (cells b) left.cells (at + c.width) left.first) (sym behind)
          (subst (λ (m : ℕ). IsGivenTo all news.cells first news.first put (cells (between (at + c.width) end image)) left.cells (at + c.width) m) goes
          (subst (λ (ds : List Cell). IsGivenTo all news.cells first news.first put (cells (between (at + c.width) end image)) ds (at + c.width) (to + new_width (is_some c.live) old.cells)) (sym x.left) more));
    })

-- all cells hold where they go
pub record AllGiven (all : List Cell) (news : Store) (first end : ℕ) (image : List ℕ) (to : ℕ) : Type 0 where
  pub given : AreGiven image first all news.first news.cells
  pub is_end : end ≡ end_from first all
  pub last : to ≡ new_place first all news.first news.cells end

-- if no cell is left, all hold where they go
pub all_given : (cells : List ℕ → List Cell) (all : List Cell) (news : Store) (first end : ℕ) (image bytes : List ℕ) (left : Store) (at to : ℕ) → IsGivenIn cells all news first end image left at to → bytes ≡ between at end image → cells bytes ≡ [] → AllGiven all news first end image to
all_given cells all news first end image bytes left at to i is no_cells =
    let none : cells (between at end image) ≡ [] = ap cells (sym is) ∙ no_cells in
    let g = i.given in
    let empty : between at end image ≡ [] = subst (HasCells cells (between at end image)) none i.are in
    let here : at ≡ end = omega (arith, ap length empty, length-take (end - at) (drop at image), length-drop at image, i.ahead, i.within) in
    let last : end_from first all ≡ end = g.end ∙ ap (end_from at) none ∙ here in
    search (arith, g, last, here, none)
