-- The rows that a step gives at a place.
use Rattle.krb_walk.proofs.Cited.{◌≡◌, ℕ, ◌+◌, ◌<◌, Bool, true, List, [], ◌∷◌, Option, Some, refl, ◌∙◌, arith, ◌==◌, filter_map, AllByRecursion, nat_tests, Cell, Record, end_from, is_place_from, Row, rows_at, ◌≤◌, cond, None, sym, ap, ◌&&◌, nat_le, nat_lt, option_to_list, Store, end_of, is_place, IsSound, live_at, next_live, row_of, stop_cursor}
use Rattle.krb_walk.proofs.Cells.{live_from, spots, rows_of_next, places_spots}
use Rattle.krb_walk.proofs.Places.{widths, stop_place, place_in}
use Rattle.krb_walk.proofs.Tracks.{between}

-- a row of a turn has the turn's place
pub live_place : (at p : ℕ) (cells : List Cell) (r : Record) → live_from at cells p ≡ Some r → (r.place ≡ p) × (is_place_from at cells p ≡ true)
live_place at p [] r h = cc
live_place at p (x ∷ cells) r h = search (arith, live_place (at + x.width) p cells r)

-- rows by their places
abbrev pub AtOwnPlace : (ℕ → Option Row) → Type 0
AtOwnPlace f = (q : ℕ) (row : Row) → f q ≡ Some row → row.stood.place ≡ q

none_before : (f : ℕ → Option Row) (p at : ℕ) (cells : List Cell) → AtOwnPlace f → p < at → rows_at p (filter_map f (spots at (widths cells))) ≡ []
none_before f p at [] own lt = refl
none_before f p at (x ∷ cells) own lt = search arith ∙ none_before f p (at + x.width) cells own (omega arith)

one_at_cons : (f : ℕ → Option Row) (p at : ℕ) (x : Cell) (cells : List Cell) (row : Row) (b : Bool) → (at == p) ≡ b → AtOwnPlace f → 0 < x.width → (is_place_from (at + x.width) cells p ≡ true → rows_at p (filter_map f (spots (at + x.width) (widths cells))) ≡ row ∷ []) → is_place_from at (x ∷ cells) p ≡ true → f p ≡ Some row → rows_at p (filter_map f (spots at (widths (x ∷ cells)))) ≡ row ∷ []
one_at_cons f p at x cells row b e own some ih there is = search (arith, none_before)

pub one_at : (f : ℕ → Option Row) (p at : ℕ) (cells : List Cell) (row : Row) → AtOwnPlace f → AllByRecursion (λ c. 0 < c.width) cells → is_place_from at cells p ≡ true → p < end_from at cells → f p ≡ Some row → rows_at p (filter_map f (spots at (widths cells))) ≡ row ∷ []
one_at f p at [] row own sound there lt is = let same : at ≡ p = grind (arith, nat_tests) in absurd (omega arith)
one_at f p at (x ∷ cells) row own sound there lt is = one_at_cons f p at x cells row (at == p) refl own sound.0 (λ on. one_at f p (at + x.width) cells row own sound.1 on lt is) there is

-- the rows at a place, given by a function on places
none_at : (f : ℕ → Option Row) (p : ℕ) (ps : List ℕ) → AtOwnPlace f → f p ≡ None → rows_at p (filter_map f ps) ≡ []
none_at f p [] own none = refl
none_at f p (q ∷ ps) own none = grind (arith, nat_tests, none_at f p ps own none)

-- the rows that a step gives at a place
abbrev step_row : ℕ → Store → ℕ → ℕ → ℕ → Option Row
step_row n s c to p = cond (nat_le c p && nat_lt p to) (row_of n (live_at s p)) None

step_at_by : (n : ℕ) (s : Store) (c to p : ℕ) (b : Bool) → (nat_le c p && nat_lt p to) ≡ b → IsSound s → (p < to → p < end_of s) → rows_at p (filter_map (step_row n s c to) (spots s.first (widths s.cells))) ≡ cond b (option_to_list (row_of n (live_at s p))) []
step_at_by n s c to p b e sound inside = search (arith, one_at, live_at, none_at, live_place)

pub step_at : (n : ℕ) (s : Store) (c p : ℕ) (b : Bool) → IsSound s → is_place s c ≡ true → (nat_le c p && nat_lt p (stop_cursor (end_of s) (next_live s c))) ≡ b → rows_at p (rows_of_next n (next_live s c)) ≡ cond b (option_to_list (row_of n (live_at s p))) []
step_at n s c p b sound here e =
    let to = stop_cursor (end_of s) (next_live s c) in
    let inside : to ≤ end_of s = place_in s.first s.cells to (stop_place s c) in
    ap (rows_at p) (sym (between s n c sound here)) ∙ ap (λ (ps : List ℕ). rows_at p (filter_map (step_row n s c to) ps)) (places_spots s.first s.cells)
    ∙ step_at_by n s c to p b e sound (λ lt. omega arith)
