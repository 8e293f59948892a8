-- The cells of bytes, split at a place.
use Rattle.krb_cells.proofs.Cited.{◌≡◌, ℕ, ◌+◌, ◌-◌, ◌<◌, ◌≤◌, Bool, true, false, List, [], ◌∷◌, ◌++◌, length, drop, Option, Some, None, refl, sym, ap, subst, ◌∙◌, arith, ◌==◌, IsSome, AllByRecursion, nat_tests, length-drop, drop-drop, is_some_has, Cell, Store, Record, end_from, end_of, is_place, is_place_from, live_bytes, stop_of, end_stop, IsSound, IsPlace, HasCells, AreCells}
use Rattle.krb_walk.specs.declared.fault.FaultKind.{FaultKind}
use Rattle.krb_walk.proofs.Stops.{next_from, bytes_from, is_place_from-first}
use Rattle.krb_walk.proofs.Splits.{end_from-append, next_ahead, bytes_ahead, live_splits, split_is_place}
use Rattle.krb_cells.specs.Cells.{HoldsCells, IsFrom}
use Rattle.krb_wire.proofs.Lists.{all_front}

-- each cell of bytes takes up a place
pub sound_by : (cells : List ℕ → List Cell) (bytes : List ℕ) (cs : List Cell) → HasCells cells bytes cs → AllByRecursion (λ c. 0 < c.width) cs
sound_by cells bytes [] has = tt
sound_by cells bytes (c ∷ cs) has = let four = has.0 in (omega (arith, four), sound_by cells (drop c.width bytes) cs has.3)

-- a store that holds cells of bytes is sound
pub sound : (cells : List ℕ → List Cell) (place : ℕ) (bytes : List ℕ) (s : Store) → HoldsCells cells place bytes → cells bytes ≡ s.cells → IsSound s
sound cells place bytes s holds is = subst (AllByRecursion (λ (c : Cell). 0 < c.width)) is (sound_by cells bytes (cells bytes) holds.are)

filled : (cells : List ℕ → List Cell) (at : ℕ) (bytes : List ℕ) (cs : List Cell) → HasCells cells bytes cs → end_from at cs ≡ at + length bytes
filled cells at bytes [] has = omega (arith, ap length has)
filled cells at bytes (c ∷ cs) has = search (arith, length-drop, filled cells (at + c.width) (drop c.width bytes) cs has.3)

-- the cells end where the bytes do
pub ends : (cells : List ℕ → List Cell) (place : ℕ) (bytes : List ℕ) (fault : Option FaultKind) (s : Store) → HoldsCells cells place bytes
    → ◌≡◌ {A = Store} (record { first = place; cells = cells bytes; fault = fault }) s → place + length bytes ≡ end_of s
ends cells place bytes fault s holds is = sym (filled cells place bytes (cells bytes) holds.are) ∙ ap end_of is

-- cells split at a place: those before it, and those from it on
pub record CutAt (cells : List ℕ → List Cell) (at : ℕ) (bytes : List ℕ) (cs : List Cell) (p : ℕ) : Type 0 where
  pub before : List Cell
  pub ahead : at ≤ p
  pub within : p ≤ at + length bytes
  pub place : p ≡ end_from at before
  pub parts : cs ≡ before ++ cells (drop (p - at) bytes)
  pub rest : AreCells cells (drop (p - at) bytes)

cut_here : (cells : List ℕ → List Cell) (at : ℕ) (bytes : List ℕ) (cs : List Cell) (p : ℕ) → HasCells cells bytes cs → cells bytes ≡ cs → at ≡ p → CutAt cells at bytes cs p
cut_here cells at bytes cs p has is same = search arith

cut_after : (cells : List ℕ → List Cell) (at : ℕ) (bytes : List ℕ) (c : Cell) (cs : List Cell) (p : ℕ) → c.width ≤ length bytes → CutAt cells (at + c.width) (drop c.width bytes) cs p → CutAt cells at bytes (c ∷ cs) p
cut_after cells at bytes c cs p wide k =
    let size : c.width + (p - (at + c.width)) ≡ p - at = omega (arith, k.ahead) in
    let same : drop (p - (at + c.width)) (drop c.width bytes) ≡ drop (p - at) bytes = drop-drop (p - (at + c.width)) c.width bytes ∙ ap (λ (n : ℕ). drop n bytes) size in
    record {
      before = c ∷ k.before;
      ahead = omega (arith, k.ahead);
      within = omega (arith, k.within, length-drop c.width bytes, wide);
      place = k.place;
      parts = ap (λ (xs : List Cell). c ∷ xs) (k.parts ∙ ap (λ (b : List ℕ). k.before ++ cells b) same);
      rest = subst (AreCells cells) same k.rest;
    }

cut_cons : (cells : List ℕ → List Cell) (at : ℕ) (bytes : List ℕ) (c : Cell) (cs : List Cell) (p : ℕ) (b : Bool) → (at == p) ≡ b → HasCells cells bytes (c ∷ cs) → cells bytes ≡ c ∷ cs
    → (is_place_from (at + c.width) cs p ≡ true → CutAt cells (at + c.width) (drop c.width bytes) cs p) → is_place_from at (c ∷ cs) p ≡ true → CutAt cells at bytes (c ∷ cs) p
cut_cons cells at bytes c cs p true e has is ih h = cut_here cells at bytes (c ∷ cs) p has is (grind (arith, nat_tests))
cut_cons cells at bytes c cs p false e has is ih h = cut_after cells at bytes c cs p has.1 (ih (rw e at h))

cut : (cells : List ℕ → List Cell) (at : ℕ) (bytes : List ℕ) (cs : List Cell) (p : ℕ) → HasCells cells bytes cs → cells bytes ≡ cs → is_place_from at cs p ≡ true → CutAt cells at bytes cs p
cut cells at bytes [] p has is h = cut_here cells at bytes [] p has is (grind (arith, nat_tests))
cut cells at bytes (c ∷ cs) p has is h = cut_cons cells at bytes c cs p (at == p) refl has is (λ e. cut cells (at + c.width) (drop c.width bytes) cs p has.3 has.2 e) h

-- the cells can be split at each of their places
pub cut_held : (cells : List ℕ → List Cell) (place : ℕ) (bytes : List ℕ) (fault : Option FaultKind) (s : Store) (p : ℕ) → HoldsCells cells place bytes
    → ◌≡◌ {A = Store} (record { first = place; cells = cells bytes; fault = fault }) s → IsPlace s p → CutAt cells place bytes (cells bytes) p
cut_held cells place bytes fault s p holds is at = cut cells place bytes (cells bytes) p holds.are refl (ap (λ (x : Store). is_place x p) is ∙ at)

-- the bytes from a place on hold the cells from there on
pub holds_from : (cells : List ℕ → List Cell) (place : ℕ) (bytes : List ℕ) (p : ℕ) → HoldsCells cells place bytes → CutAt cells place bytes (cells bytes) p → HoldsCells cells p (drop (p - place) bytes)
holds_from cells place bytes p holds k = search (arith, length-drop)

stop_by : (at p : ℕ) (all after : List Cell) (fault : Option FaultKind) (o : Option Record) → end_from at all ≡ end_from p after → stop_of (record { first = at; cells = all; fault = fault }) o ≡ stop_of (record { first = p; cells = after; fault = fault }) o
stop_by at p all after fault (Some r) end = refl
stop_by at p all after fault None end = ap (λ (n : ℕ). end_stop n fault) end

-- look-ups at or after a split give the same in the cells from the split on
from_split : (at p : ℕ) (before after : List Cell) (fault : Option FaultKind) → p ≡ end_from at before → AllByRecursion (λ c. 0 < c.width) before
    → IsFrom (record { first = at; cells = before ++ after; fault = fault }) p (record { first = p; cells = after; fault = fault })
from_split at p before after fault place sound = search (arith, next_from, next_ahead, sound, end_from-append, stop_by, bytes_ahead, bytes_from)

pub is_from : (cells : List ℕ → List Cell) (place : ℕ) (bytes : List ℕ) (fault : Option FaultKind) (s : Store) (p : ℕ) → HoldsCells cells place bytes
    → ◌≡◌ {A = Store} (record { first = place; cells = cells bytes; fault = fault }) s → CutAt cells place bytes (cells bytes) p
    → IsFrom s p (record { first = p; cells = cells (drop (p - place) bytes); fault = fault })
is_from cells place bytes fault s p holds is k =
    let after = cells (drop (p - place) bytes) in
    let all = subst (AllByRecursion (λ (c : Cell). 0 < c.width)) k.parts (sound_by cells bytes (cells bytes) holds.are) in
    let whole : record { first = place; cells = k.before ++ after; fault = fault } ≡ s = ap (λ (cs : List Cell). record { first = place; cells = cs; fault = fault }) (sym k.parts) ∙ is in
    subst (λ (x : Store). IsFrom x p (record { first = p; cells = after; fault = fault })) whole (from_split place p k.before after fault k.place (all_front (λ (c : Cell). 0 < c.width) k.before after all))

-- the number at which a live cell begins is a place
pub live_is_place : (s : Store) (p : ℕ) → IsSome (live_bytes s p) → IsPlace s p
live_is_place s p some =
    let b = is_some_has (live_bytes s p) some in
    let k = live_splits s.first p s.cells b.0 b.1 in
    let c : Cell = record { width = k.width; live = Some b.0 } in
    ap (λ (cs : List Cell). is_place_from s.first cs p) k.is ∙ ap (is_place_from s.first (k.before ++ c ∷ k.after)) k.place ∙ split_is_place s.first k.before (c ∷ k.after)

-- the first place is a place
pub is_first_place : (s : Store) (p : ℕ) → s.first ≡ p → true ≡ is_place s p
is_first_place s p e = sym (is_place_from-first s.first s.cells) ∙ ap (is_place s) e
