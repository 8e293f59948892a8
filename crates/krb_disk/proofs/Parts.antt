-- Equal parts of two files.
use Rattle.std.proofs.Common.{◌≡◌, ℕ, ◌-◌, ◌+◌, ◌<◌, ◌≤◌, List, length, slice_get, get_or, arith, ap, ◌∙◌}
use Rattle.std.specs.List.{between}
use Rattle.std.proofs.lemmas.List.Edits.{get_or-between}
use Rattle.std.proofs.lemmas.Option.{slice_get-get_or}

-- a byte of a part is that of the whole
part_at : (xs : List ℕ) (from to i : ℕ) → from ≤ i → i < to → get_or (between from to xs) (i - from) 0 ≡ get_or xs i 0
part_at xs from to i past before =
    let at : from + (i - from) ≡ i = omega arith in
    get_or-between xs from to (i - from) 0 (omega arith) ∙ ap (λ (k : ℕ). get_or xs k 0) at

-- two files have the same bytes where they have the same part
pub same_part : (xs ys : List ℕ) (from to : ℕ) → to ≤ length xs → to ≤ length ys → between from to xs ≡ between from to ys
    → (i : ℕ) → from ≤ i → i < to → slice_get xs i ≡ slice_get ys i
same_part xs ys from to in_xs in_ys same i past before =
    let one = part_at xs from to i past before in
    let other = part_at ys from to i past before in
    grind (arith, slice_get-get_or)
