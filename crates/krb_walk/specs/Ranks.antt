-- Live cells by their rank, and where a rewrite carries a cursor.
use Rattle.std.specs.Prelude.{◌≡◌, ℕ, zero, suc, true, nat_lt, List, [], ◌∷◌, length, map, filter, None, is_some}
use Rattle.std.specs.List.{AllByRecursion}
use Rattle.krb_walk.specs.Store.{Store, IsSound, records, end_of}

-- the places of the live cells, in order
abbrev pub live_places : Store → List ℕ
live_places s = map (λ r. r.place) (records s)

-- the rank of a place: how many live cells are before it
abbrev pub rank : Store → ℕ → ℕ
rank s p = length (filter (λ q. nat_lt q p) (live_places s))

-- the element of a list at an index, or `end` if the list is shorter
abbrev pub nth_or : ℕ → List ℕ → ℕ → ℕ
nth_or end [] k = end
nth_or end (p ∷ ps) zero = p
nth_or end (p ∷ ps) (suc k) = nth_or end ps k

-- the place to which a rewrite carries a cursor: that of the first live cell at or after it, by rank, or the new end
abbrev pub carry : Store → Store → ℕ → ℕ
carry old new c = nth_or (end_of new) (live_places new) (rank old c)

-- a store went from `old` to `new` by a rewrite: no fault, as many live cells as before, and no free ones
pub record Rewrites (old new : Store) : Type 0 where
  pub whole : old.fault ≡ None
  pub fault : new.fault ≡ None
  pub sound : IsSound new
  pub all_live : AllByRecursion (λ c. is_some c.live ≡ true) new.cells
  pub as_many : length (live_places new) ≡ length (live_places old)
