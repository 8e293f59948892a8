-- Splitting a text, piece by piece.
use Rattle.krb_text.proofs.Cited.{◌≡◌, ℕ, suc, ◌+◌, ◌-◌, ◌≤◌, Bool, false, List, [], ◌∷◌, length, take, drop, Option, Some, None, refl, add-one, arith, slice_split, position_from, pieces, pieces_left, joined, count_by-le-length}
use Rattle.std.specs.Prelude.{◌==◌}
use Rattle.std.proofs.lemmas.List.Splits.{length-slice_split, join_with_byte-slice_split}
use Rattle.std.proofs.lemmas.Grind.{common_steps}

-- how a text is split if its first piece ends at n, counted from k, or if it has only one piece
abbrev CutAt : (ℕ → Bool) → ℕ → List ℕ → Option ℕ → Type 0
CutAt p k xs None = slice_split p xs ≡ xs ∷ []
CutAt p k xs (Some n) = (m : ℕ) × (n ≡ k + m) × (slice_split p xs ≡ take m xs ∷ slice_split p (drop (m + 1) xs))

-- the same with one more byte before the end
cut_after : (p : ℕ → Bool) (k x : ℕ) (xs : List ℕ) (o : Option ℕ) → p x ≡ false → CutAt p (k + 1) xs o → CutAt p k (x ∷ xs) o
cut_after p k x xs None e h = rw (e, h) refl
cut_after p k x xs (Some n) e h =
    let place : n ≡ k + (h.0 + 1) = (let is = h.1 in omega (arith, is)) in
    (h.0 + 1, place, rw (e, h.2, add-one (h.0), add-one (suc h.0)) refl)

-- the first piece ends where `position_from` says
cut_first : (p : ℕ → Bool) (k : ℕ) (xs : List ℕ) → CutAt p k xs (position_from p k xs)
cut_first p k [] = refl
cut_first p k (x ∷ xs) = search (arith, cut_after, cut_first p (k + 1) xs)

-- if the first piece ends at n, the text is split there
pub cut_some : (at n : ℕ) (text : List ℕ) → position_from (λ b. b == at) 0 text ≡ Some n → pieces at text ≡ take n text ∷ pieces at (take (length text - (n + 1)) (drop (n + 1) text))
cut_some at n text e = search (arith, common_steps, cut_first)

-- if the first piece does not end, it is the only one
pub cut_none : (at : ℕ) (text : List ℕ) → position_from (λ b. b == at) 0 text ≡ None → pieces at text ≡ text ∷ []
cut_none at text e = rw e at (cut_first (λ b. b == at) 0 text)

-- there is at most one more piece than there are bytes
pub length-pieces : (at : ℕ) (text : List ℕ) → length (pieces at text) ≤ length text + 1
length-pieces at text = omega (arith, length-slice_split (λ b. b == at) text, count_by-le-length (λ b. b == at) text)

-- the rest of a text is its pieces joined again
pub joined_left : (at : ℕ) (left : Option (List ℕ)) → left ≡ joined at (pieces_left at left)
joined_left at None = refl
joined_left at (Some text) = grind (arith, join_with_byte-slice_split at text, length-slice_split (λ b. b == at) text)
