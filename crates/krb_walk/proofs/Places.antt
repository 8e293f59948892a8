-- What an addition or a removal keeps: the places, and that cursors are at places.
use Rattle.krb_walk.proofs.Cited.{◌≡◌, ℕ, ◌+◌, ◌<◌, ◌≤◌, Bool, true, List, [], ◌∷◌, ◌++◌, map, Some, inl, inr, refl, sym, ap, ◌∙◌, arith, append_assoc, ◌||◌, ◌==◌, ◌⊎◌, AllByRecursion, map-append, append-nil, nat_tests, Cell, Store, end_from, end_of, is_place_from, is_place, next_live, IsSound, Appends, Puts, Cuts, stop_cursor, all_join}
use Rattle.krb_walk.proofs.Stops.{next_stops, end_from-ge, is_place_from-first}
use Rattle.krb_walk.proofs.Cells.{stop_from}

abbrev pub widths : List Cell → List ℕ
widths cells = map (λ c. c.width) cells

-- the new store has the old one's cells where they were, and perhaps more after them
pub record Extends (old new : Store) : Type 0 where
  pub first : new.first ≡ old.first
  pub more : List ℕ
  pub widths_are : widths new.cells ≡ widths old.cells ++ more
  pub some : AllByRecursion (λ w. 0 < w) more

pub extends_self : (s : Store) → Extends s s
extends_self s = record { first = refl; more = []; widths_are = sym (append-nil (widths s.cells)); some = tt }

pub extends_on : (a b c : Store) → Extends a b → Extends b c → Extends a c
extends_on a b c e f = search (arith, append_assoc, all_join)

appends-extends : (old new : Store) (p : ℕ) → Appends old new p → Extends old new
appends-extends old new p a = record {
  first = a.first;
  more = a.width ∷ [];
  widths_are = ap widths a.cells ∙ map-append (λ c. c.width) old.cells (record { width = a.width; live = Some a.bytes } ∷ []);
  some = (a.some_width, tt);
}

pub puts-extends : (old new : Store) (p : ℕ) → Puts old new p → Extends old new
puts-extends old new p h = elim h.how [ inl f ↦ search (arith, map-append, append-nil) | inr a ↦ appends-extends old new p a ]

pub cuts-extends : (old new : Store) (p : ℕ) → Cuts old new p → Extends old new
cuts-extends old new p h = search (arith, map-append, append-nil)

-- soundness, by the widths
sound-widths : (cells : List Cell) → AllByRecursion (λ c. 0 < c.width) cells → AllByRecursion (λ w. 0 < w) (widths cells)
sound-widths [] h = tt
sound-widths (c ∷ cells) h = (h.0, sound-widths cells h.1)

widths-sound : (cells : List Cell) → AllByRecursion (λ w. 0 < w) (widths cells) → AllByRecursion (λ c. 0 < c.width) cells
widths-sound [] h = tt
widths-sound (c ∷ cells) h = (h.0, widths-sound cells h.1)

pub sound_kept : (old new : Store) → Extends old new → IsSound old → IsSound new
sound_kept old new e h = search (arith, all_join, sound-widths, widths-sound)

-- places, by the widths
abbrev is_spot : ℕ → List ℕ → ℕ → Bool
is_spot at [] p = at == p
is_spot at (w ∷ ws) p = (at == p) || is_spot (at + w) ws p

place-spot : (at : ℕ) (cells : List Cell) (p : ℕ) → is_place_from at cells p ≡ is_spot at (widths cells) p
place-spot at [] p = refl
place-spot at (c ∷ cells) p = ap (λ b. (at == p) || b) (place-spot (at + c.width) cells p)

spot_head : (at : ℕ) (ws : List ℕ) → is_spot at ws at ≡ true
spot_head at [] = grind (arith, nat_tests)
spot_head at (w ∷ ws) = let e : (at == at) ≡ true = grind (arith, nat_tests) in rw e refl

or_right : (b c d : Bool) → (c ≡ true → d ≡ true) → (b || c) ≡ true → (b || d) ≡ true
or_right b c d h e = search arith

spot_more : (at : ℕ) (ws more : List ℕ) (p : ℕ) → is_spot at ws p ≡ true → is_spot at (ws ++ more) p ≡ true
spot_more at [] more p h = let e : at ≡ p = grind (arith, nat_tests) in rw (← e) (spot_head at more)
spot_more at (w ∷ ws) more p h = or_right (at == p) _ _ (spot_more (at + w) ws more p) h

pub place_kept : (old new : Store) (p : ℕ) → Extends old new → is_place old p ≡ true → is_place new p ≡ true
place_kept old new p e h = search (arith, place-spot, spot_more)

-- the first place is a place
pub place_first : (s : Store) → is_place s s.first ≡ true
place_first s = is_place_from-first s.first s.cells

pub or_cases : (b c : Bool) → (b || c) ≡ true → (b ≡ true) ⊎ (c ≡ true)
or_cases b c e = search arith

-- a place is not past the end
pub place_in : (at : ℕ) (cells : List Cell) (p : ℕ) → is_place_from at cells p ≡ true → p ≤ end_from at cells
place_in at [] p h = let e : at ≡ p = grind (arith, nat_tests) in omega arith
place_in at (c ∷ cells) p h = search (arith, or_cases, end_from-ge, place_in (at + c.width) cells p)

abbrev StopsAtPlace : ℕ → List Cell → ℕ → Type 0
StopsAtPlace at cells c = is_place_from at cells (stop_from at cells c) ≡ true

stop_place_from : (at c : ℕ) (cells : List Cell) → StopsAtPlace at cells c
stop_place_from at c [] = is_place_from-first at []
stop_place_from at c (x ∷ cells) = search (arith, is_place_from-first, next_stops, stop_place_from (at + x.width) c cells)

-- a step leads to a place
pub stop_place : (s : Store) (c : ℕ) → is_place s (stop_cursor (end_of s) (next_live s c)) ≡ true
stop_place s c = stop_place_from s.first c s.cells

stop_forward_from : (at c : ℕ) (cells : List Cell) → c ≤ end_from at cells → c ≤ stop_from at cells c
stop_forward_from at c [] h = h
stop_forward_from at c (x ∷ cells) h = grind (arith, nat_tests, stop_forward_from (at + x.width) c cells h)

-- a step does not go back
pub stop_forward : (s : Store) (c : ℕ) → is_place s c ≡ true → c ≤ stop_cursor (end_of s) (next_live s c)
stop_forward s c h = stop_forward_from s.first c s.cells (place_in s.first s.cells c h)
