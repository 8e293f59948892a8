-- A hash of names, and the order of names by it.
use Rattle.std.specs.Prelude.{ℕ, List, length, ◌+◌, ◌*◌, ◌/◌, ◌%◌, ◌^◌, drop}
use Rattle.std.specs.Cmp.Lexicographic.{slice_cmp}
use Rattle.std.specs.Int.{w64, from_le_bytes}
use Rattle.std.specs.List.{fold}
use Rattle.std.specs.Ordering.{nat_cmp, ordering_then}
use Rattle.std.specs.Simd.{first_chunks}
use Rattle.std.specs.declared.cmp.Ordering.{Ordering}
use denote.Ref.{Bor}

-- the hash with one more number, in 64 bits (the multiplier is that of FNV-1a)
abbrev pub with_number : ℕ → ℕ → ℕ
with_number hash number = (hash + number) % 2 ^ 64 * 1099511628211 % 2 ^ 64

-- the hash of numbers of eight bytes
abbrev pub hash_of_words : List (List ℕ) → ℕ
hash_of_words words = fold (λ hash word. with_number hash (from_le_bytes w64 word)) 0 words

-- the hash of a name's bytes, eight at a time as long as there are eight
unfoldable pub hash_of : List ℕ → ℕ
hash_of name =
    let words = length name / 8 in
    fold with_number (hash_of_words (first_chunks 8 words name)) (drop (words * 8) name)

-- ---- in order

-- the bytes of a name, after their hash or another number
abbrev pub HashedName : Type 0
HashedName = ℕ × Bor (List ℕ)

-- their order: by number, then by bytes
abbrev pub name_cmp : HashedName → HashedName → Ordering
name_cmp x y = ordering_then (nat_cmp x.0 y.0) (slice_cmp nat_cmp x.1.now y.1.now)
