-- The table of cells.
use Rattle.krb_keytab.proofs.Cited.{◌≡◌, ℕ, ◌<◌, ◌≤◌, true, false, List, length, get_or, arith, nat_lt, slice_index, cases_lt, lt-ltb, ltb-true, ltb-false, length-map, get_or-map, Slot}
use Rattle.std.specs.List.Sorted.{IsPartitionedBy, IsPartitionPoint}
use Rattle.krb_keytab.specs.Slot.{places, IsRising, IsRank}

-- ---- the rank of a place

pub place_at : (slots : List Slot) (i : ℕ) (d : Slot) → i < length slots → slice_index (places slots) i ≡ (get_or slots i d).place
place_at slots i d lt = get_or-map (λ (s : Slot). s.place) slots i d 0 lt

-- a smaller place comes before a greater one
pub partitioned_by_place : (slots : List Slot) (p : ℕ) → IsRising (places slots) → IsPartitionedBy (λ (s : Slot). nat_lt s.place p) slots
partitioned_by_place slots p rising i j d le lt h = search (arith, ltb-true, cases_lt, lt-ltb, place_at, length-map)

-- the default if there is no slot
abbrev pub none : Slot
none = record { place = 0; field = 0 }

-- the partition point is the rank
pub is_rank : (slots : List Slot) (p rank : ℕ) → rank ≤ length slots → IsPartitionPoint (λ (s : Slot). nat_lt s.place p ≡ true) (λ (s : Slot). nat_lt s.place p ≡ false) slots rank → IsRank (places slots) p rank
is_rank slots p rank bound point =
    let len = length-map slots (λ (s : Slot). s.place) in
    record {
      within = omega (arith, len);
      below = λ i lt. let yes = ltb-true _ _ (point.0 i none (omega arith) lt) in omega (arith, yes, place_at slots i none (omega arith));
      rest = λ i le lt. let no = ltb-false _ _ (point.1 i none le (omega (arith, len, lt))) in omega (arith, no, place_at slots i none (omega (arith, len, lt)));
    }
