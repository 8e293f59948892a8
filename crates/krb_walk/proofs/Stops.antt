-- Where a walk stops: at the first record left.
use Rattle.krb_walk.proofs.Cited.{◌≡◌, ℕ, ◌+◌, ◌<◌, ◌≤◌, Bool, true, List, [], ◌∷◌, Option, Some, None, refl, arith, ◌&&◌, ◌==◌, nat_le, is_some, filter, find, filter_map, AllByRecursion, nat_tests, leb-true, leb-false, le-leb, Cell, Record, standing, end_from, is_place_from, record_of, record_of_some, bytes_of_some, StopsEnd, StopsGiveRecords, WalksBeginWithAll}

-- the first record at or after p, the records, and the cell at p, of cells from a place on
abbrev pub next_from : ℕ → List Cell → ℕ → Option Record
next_from at cells p = record_of_some (find (λ x. nat_le p x.place && is_some x.cell.live) (standing at cells))

abbrev pub records_of : ℕ → List Cell → List Record
records_of at cells = filter_map record_of (standing at cells)

abbrev pub bytes_from : ℕ → List Cell → ℕ → Option (List ℕ)
bytes_from at cells p = bytes_of_some (record_of_some (find (λ x. x.place == p) (standing at cells)))

-- the records at or after p
abbrev pub left : ℕ → List Record → List Record
left p rs = filter (λ r. nat_le p r.place) rs

pub end_from-ge : (at : ℕ) (cells : List Cell) → at ≤ end_from at cells
end_from-ge at [] = omega arith
end_from-ge at (c ∷ cells) = omega (arith, end_from-ge (at + c.width) cells)

-- a live cell at or after p
pub next_stops : (at p w : ℕ) (bytes : List ℕ) (cells : List Cell) → p ≤ at → next_from at (record { width = w; live = Some bytes } ∷ cells) p ≡ Some (record { place = at; next = at + w; bytes = bytes })
next_stops at p w bytes cells le = rw (le-leb p at le) refl

-- from their first place, or from before it, all records are left
all_left : (at p : ℕ) (cells : List Cell) → p ≤ at → left p (records_of at cells) ≡ records_of at cells
all_left at p [] le = refl
all_left at p (c ∷ cells) le = search (arith, all_left (at + c.width) p cells (omega arith))

-- the first place of cells is a place
pub is_place_from-first : (at : ℕ) (cells : List Cell) → is_place_from at cells at ≡ true
is_place_from-first at [] = let e : (at == at) ≡ true = grind (arith, nat_tests) in e
is_place_from-first at (c ∷ cells) = let e : (at == at) ≡ true = grind (arith, nat_tests) in rw e refl

pub is_place_from-cons : (at w q : ℕ) (live : Option (List ℕ)) (cells : List Cell) → is_place_from (at + w) cells q ≡ true → is_place_from at (record { width = w; live = live } ∷ cells) q ≡ true
is_place_from-cons at w q live cells e = search arith

-- what holds of a stop at a record, for cells from a place on
pub record Found (at : ℕ) (cells : List Cell) (p : ℕ) (r : Record) : Type 0 where
  pub first : left p (records_of at cells) ≡ r ∷ left r.next (records_of at cells)
  pub bytes : bytes_from at cells r.place ≡ Some r.bytes
  pub place : is_place_from at cells r.next ≡ true
  pub begins : at ≤ r.place
  pub at_or_after : p ≤ r.place
  pub ahead : r.place < r.next
  pub within : r.next ≤ end_from at cells

found_cons : (at w p : ℕ) (live : Option (List ℕ)) (b : Bool) (cells : List Cell) (r : Record) → nat_le p at ≡ b → 0 < w → (next_from (at + w) cells p ≡ Some r → Found (at + w) cells p r) → next_from at (record { width = w; live = live } ∷ cells) p ≡ Some r → Found at (record { width = w; live = live } ∷ cells) p r
found_cons at w p live b cells r e some ih is = search (arith, leb-true, next_stops, all_left, le-leb, is_place_from-cons, is_place_from-first, end_from-ge, leb-false)

pub found : (at p : ℕ) (cells : List Cell) (r : Record) → AllByRecursion (λ c. 0 < c.width) cells → next_from at cells p ≡ Some r → Found at cells p r
found at p [] r sound is = cc
found at p (c ∷ cells) r sound is = found_cons at c.width p c.live (nat_le p at) cells r refl sound.0 (λ e. found (at + c.width) p cells r sound.1 e) is

-- if no record is found, none is left
pub none_left : (at p : ℕ) (cells : List Cell) → next_from at cells p ≡ None → left p (records_of at cells) ≡ []
none_left at p [] is = refl
none_left at p (c ∷ cells) is = grind (arith, nat_tests, none_left (at + c.width) p cells)

-- ---- the laws

pub stops_give_records : StopsGiveRecords
stops_give_records s p r sound is =
    let f = found s.first p s.cells r sound is in
    record { first = f.first; bytes = f.bytes; place = f.place; at_or_after = f.at_or_after; ahead = f.ahead; within = f.within }

pub stops_end : StopsEnd
stops_end s p is = none_left s.first p s.cells is

pub walks_begin_with_all : WalksBeginWithAll
walks_begin_with_all s = record { all = all_left s.first s.first s.cells (omega arith); place = is_place_from-first s.first s.cells }
