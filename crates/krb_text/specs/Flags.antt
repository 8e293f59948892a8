-- Ticket flags as letters: the flags of RFC 4120, section 5.3, and RFC 8062, under the letters that MIT's klist prints (RFC 4120 5.3, RFC 8062).
use Rattle.std.specs.Prelude.{ℕ, ◌^◌, ◌==◌, List, [], ◌∷◌, map, filter, codes, Bool, not, bit_and}
use Rattle.std.specs.List.{zip}

-- the bits of the ticket flags that have a letter
abbrev pub flag_bits : List ℕ
flag_bits =
    2 ^ 30 ∷ 2 ^ 29 ∷ 2 ^ 28 ∷ 2 ^ 27 ∷ 2 ^ 26 ∷ 2 ^ 25 ∷ 2 ^ 24
    ∷ 2 ^ 23 ∷ 2 ^ 22 ∷ 2 ^ 20 ∷ 2 ^ 21 ∷ 2 ^ 19 ∷ 2 ^ 18 ∷ 2 ^ 15 ∷ []

-- the bit of each ticket flag, with the letter that MIT's klist prints for the flag
abbrev pub flag_table : List (ℕ × ℕ)
flag_table = zip flag_bits (codes "FfPpDdiRIHATOa")

-- a flag of the table is set among a ticket's flags
abbrev pub is_set : ℕ → ℕ × ℕ → Bool
is_set flags x = not (bit_and flags x.0 == 0)

-- the letters of the flags of a table that are set
abbrev pub letters_among : ℕ → List (ℕ × ℕ) → List ℕ
letters_among flags xs = map (λ x. x.1) (filter (is_set flags) xs)

-- a ticket's flags as letters
abbrev pub flag_letters_of : ℕ → List ℕ
flag_letters_of flags = letters_among flags flag_table
