-- The places of cells in a table.
use Rattle.krb_keytab.proofs.Cited.{◌≡◌, ℕ, zero, suc, ◌+◌, ◌<◌, ◌≤◌, false, eqb, List, [], ◌∷◌, ◌++◌, length, map, take, drop, refl, sym, ap, ◌∙◌, arith, inl, inr, slice_index, ◌==◌, ne_eqb, cases_Bool, eqb_tells, length-map, take-append-drop, Cell, size, end_from-ge, store_cell, end_place, Slot, places, slots_from, IsRising, IsRank}
use Rattle.krb_walk.specs.Store.{is_place_from}
use Rattle.krb_cells.proofs.Given.{place_ge}

pub slots_len : (at : ℕ) (cs : List Cell) → length (slots_from at cs) ≡ length cs
slots_len at [] = refl
slots_len at (c ∷ cs) = ap suc (slots_len (at + (4 + size c)) cs)

pub places_len : (at : ℕ) (cs : List Cell) → length (places (slots_from at cs)) ≡ length cs
places_len at cs = length-map (slots_from at cs) (λ (s : Slot). s.place) ∙ slots_len at cs

-- a cell starts where those before it end
pub place_is : (at : ℕ) (cs : List Cell) (i : ℕ) → i < length cs → slice_index (places (slots_from at cs)) i ≡ end_place at (take i cs)
place_is at [] i lt = absurd (omega arith)
place_is at (c ∷ cs) zero lt = refl
place_is at (c ∷ cs) (suc i) lt = place_is (at + (4 + size c)) cs i (omega arith)

pub end_rises : (at : ℕ) (cs : List Cell) (i j : ℕ) → i < j → j ≤ length cs → end_place at (take i cs) < end_place at (take j cs)
end_rises at [] i j lt le = absurd (omega arith)
end_rises at (c ∷ cs) i zero lt le = absurd (omega arith)
end_rises at (c ∷ cs) zero (suc j) lt le = omega (arith, end_from-ge (at + (4 + size c)) (map store_cell (take j cs)))
end_rises at (c ∷ cs) (suc i) (suc j) lt le = end_rises (at + (4 + size c)) cs i j (omega arith) (omega arith)

-- the places ascend
pub places_rise : (at : ℕ) (cs : List Cell) → IsRising (places (slots_from at cs))
places_rise at cs i j lt le = omega (arith, place_is at cs i (omega (arith, places_len at cs)), place_is at cs j (omega (arith, places_len at cs)), end_rises at cs i j lt (omega (arith, places_len at cs)))

rank_of_rest : (x p rank : ℕ) (xs : List ℕ) → IsRank (x ∷ xs) p (suc rank) → IsRank xs p rank
rank_of_rest x p rank xs r = record {
  within = let w = r.within in omega (arith, w);
  below = λ i lt. r.below (suc i) (omega arith);
  rest = λ i le lt. r.rest (suc i) (omega arith) (omega arith);
}

-- a number is a place iff it is that of the cell of its rank, or the end
pub place_by_rank : (at : ℕ) (cs : List Cell) (p rank : ℕ) → IsRank (places (slots_from at cs)) p rank → is_place_from at (map store_cell cs) p ≡ (end_place at (take rank cs) == p)
place_by_rank at [] p zero r = refl
place_by_rank at [] p (suc rank) r = absurd (let w = r.within in omega (arith, w))
place_by_rank at (c ∷ cs) p zero r =
    let le : p ≤ at = r.rest 0 (omega arith) (omega arith) in
    elim (eqb_tells at p) [
      | inl y ↦ rw (y.0) refl
      | inr n ↦
          let none : is_place_from (at + (4 + size c)) (map store_cell cs) p ≡ false = elim (cases_Bool (is_place_from (at + (4 + size c)) (map store_cell cs) p)) [
            | inl y ↦ absurd (omega (arith, le, place_ge (at + (4 + size c)) (map store_cell cs) p y))
            | inr n2 ↦ n2
          ] in
          rw n.0 none
    ]
place_by_rank at (c ∷ cs) p (suc rank) r =
    let lt : at < p = r.below 0 (omega arith) in
    let no : eqb at p ≡ false = ne_eqb at p (λ e. omega (arith, lt, e)) in
    rw no (place_by_rank (at + (4 + size c)) cs p rank (rank_of_rest at p rank (places (slots_from (at + (4 + size c)) cs)) r))

pub cells_at_rank : (cs : List Cell) (rank : ℕ) → cs ≡ take rank cs ++ drop rank cs
cells_at_rank cs rank = sym (take-append-drop rank cs)
