-- From stop to stop: the records that are left.
use Rattle.std.specs.Prelude.{◌≡◌, ℕ, ◌<◌, ◌≤◌, nat_le, List, [], ◌∷◌, Some, None, filter}
use Rattle.krb_walk.specs.Store.{Store, Record, IsSound, IsPlace, records, next_live, end_of, live_bytes}

-- the records at or after a place
abbrev pub records_from : Store → ℕ → List Record
records_from s p = filter (λ r. nat_le p r.place) (records s)

-- a stop at a record: the first at or after the place, with its bytes; the rest are those from `next`, a later place
pub record StopsAt (s : Store) (p : ℕ) (r : Record) : Type 0 where
  pub first : records_from s p ≡ r ∷ records_from s r.next
  pub bytes : live_bytes s r.place ≡ Some r.bytes
  pub place : IsPlace s r.next
  pub at_or_after : p ≤ r.place
  pub ahead : r.place < r.next
  pub within : r.next ≤ end_of s

-- if a walk stops at a record, it is the first one left
abbrev pub StopsGiveRecords : Type 0
StopsGiveRecords = (s : Store) (p : ℕ) (r : Record) → IsSound s → next_live s p ≡ Some r → StopsAt s p r

-- if a walk finds no record, none is left
abbrev pub StopsEnd : Type 0
StopsEnd = (s : Store) (p : ℕ) → next_live s p ≡ None → records_from s p ≡ []

-- all records are at or after the first place, which is a place
pub record BeginsWithAll (s : Store) : Type 0 where
  pub all : records_from s s.first ≡ records s
  pub place : IsPlace s s.first

-- a walk from the first place on begins with all records
abbrev pub WalksBeginWithAll : Type 0
WalksBeginWithAll = (s : Store) → BeginsWithAll s
