-- Bounds on the number of holes and on their total size.
use Rattle.krb_audit.proofs.Cited.{◌≡◌, ℕ, ◌+◌, ◌≤◌, arith, List, [], ◌∷◌, length, map, fold, sum_by, size, holes, Cell, Free, store_cell}
use Rattle.krb_walk.specs.Store.{end_from}

-- a number plus the sizes of cells
abbrev pub added : ℕ → List Cell → ℕ
added n cells = fold (λ m c. m + size c) n cells

pub added_ge : (n : ℕ) (cells : List Cell) → n ≤ added n cells
added_ge n [] = omega arith
added_ge n (c ∷ cs) = omega (arith, added_ge (n + size c) cs)

-- the holes fit between the first place and the end
holes_within : (at n : ℕ) (cells : List Cell) → added n (holes cells) + at ≤ n + end_from at (map store_cell cells)
holes_within at n [] = omega arith
holes_within at n (c ∷ cs) = grind (arith, holes_within (at + (4 + size c)) n cs, holes_within (at + (4 + size c)) (n + size c) cs)

pub holes_small : (cells : List Cell) → sum_by size (holes cells) ≤ end_from 2 (map store_cell cells)
holes_small cells = omega (arith, holes_within 2 0 cells)

pub holes_few : (cells : List Cell) → length (holes cells) ≤ length cells
holes_few [] = omega arith
holes_few (c ∷ cs) = grind (arith, holes_few cs)

-- ---- one cell more

pub hole_counted : (n total : ℕ) (cells rest : List Cell) (b : List ℕ) → cells ≡ Free b ∷ rest → n + length (holes cells) ≡ total → (n + 1) + length (holes rest) ≡ total
hole_counted n total cells rest b is so_far = grind (arith, is, so_far)

pub hole_added : (n total : ℕ) (cells rest : List Cell) (b : List ℕ) → cells ≡ Free b ∷ rest → added n (holes cells) ≡ total → added (n + length b) (holes rest) ≡ total
hole_added n total cells rest b is so_far = grind (arith, is, so_far)
