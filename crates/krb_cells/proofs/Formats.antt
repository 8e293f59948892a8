-- Bytes with the contents of a format are exactly their cells.
use Rattle.krb_cells.proofs.Cited.{◌≡◌, ℕ, zero, suc, ◌<◌, ◌≤◌, List, [], length, map, refl, sym, ap, subst, ◌∙◌, length-append, arith, drop_at, IsBytes, Cell, HasCells, AreCells, seen_in}
use Rattle.krb_cells.specs.Contents.{NextCell, More, NoMore, Contents, Format, on_next, contents}
use Rattle.krb_cells.proofs.ContentsLemmas.{IsNext, IsFormat, contents_next}

-- a format whose cells a store sees as wide as they are, each at least 4 bytes, and whose end of no bytes is empty
pub record IsSeen {C E : Type 0} (f : Format C E) (seen : C → Cell) : Type 0 where
  pub format : IsFormat f
  pub wide : (c : C) → (seen c).width ≡ length (f.cell c)
  pub four : (c : C) → 4 ≤ length (f.cell c)
  pub none : f.end_bytes f.none ≡ []

are_by : {C E : Type 0} (f : Format C E) (seen : C → Cell) (n : ℕ) (bytes : List ℕ) (s : NextCell C E) → IsSeen f seen → ((after : List ℕ) → IsBytes after → length after < n → (contents f after).end ≡ f.none → AreCells (seen_in f seen) after)
    → length bytes < suc n → IsNext f bytes s → (on_next (contents f) s).end ≡ f.none → HasCells (seen_in f seen) bytes (map seen (on_next (contents f) s).cells)
are_by f seen n bytes (More c after) is ih lt next bare = search (arith, length-append, drop_at)
are_by f seen n bytes (NoMore e) is ih lt next bare = next.0 ∙ ap f.end_bytes bare ∙ is.none

are_within : {C E : Type 0} (f : Format C E) (seen : C → Cell) (n : ℕ) (bytes : List ℕ) → IsSeen f seen → IsBytes bytes → length bytes < n → (contents f bytes).end ≡ f.none → AreCells (seen_in f seen) bytes
are_within f seen zero bytes is fit lt bare = absurd (omega arith)
are_within {C = C} {E = E} f seen (suc n) bytes is fit lt bare =
    let all = contents_next f bytes (f.next bytes) is.format fit refl in
    subst (λ (k : Contents C E). HasCells (seen_in f seen) bytes (map seen k.cells)) (sym all)
    (are_by f seen n bytes (f.next bytes) is (λ after after_fit an end. are_within f seen n after is after_fit an end) lt (is.format bytes fit) (sym (ap (λ (k : Contents C E). k.end) all) ∙ bare))

-- bytes with nothing left after their cells are exactly those cells
pub are_cells : {C E : Type 0} (f : Format C E) (seen : C → Cell) (bytes : List ℕ) → IsSeen f seen → IsBytes bytes → (contents f bytes).end ≡ f.none → AreCells (seen_in f seen) bytes
are_cells f seen bytes is fit bare = are_within f seen (suc (length bytes)) bytes is fit (omega arith) bare
