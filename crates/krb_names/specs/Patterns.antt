-- Patterns of names.
use Rattle.std.specs.Prelude.{ℕ, List, [], ◌∷◌, Bool, true, false, ◌&&◌, ◌||◌, ◌==◌, if◌then◌else◌, None, Result}
use Rattle.std.specs.Cmp.Lexicographic.{pointwise}
use Rattle.std.specs.List.{list_any}
use Rattle.krb_wire.specs.NameOf.{name_of}
use Rattle.krb_wire.specs.Spelling.{Parts}
use Rattle.krb_wire.specs.declared.name_fault.NameFault.{NameFault}

-- a star, for any bytes: a byte that no UTF-8 text has
abbrev pub star : ℕ
star = 255

-- bytes of a component or a realm have a star
abbrev pub has_star : List ℕ → Bool
has_star bytes = list_any (λ b. b == star) bytes

-- ---- what a text spells

-- a text in which each `*` that no backslash quotes is a star, if a backslash is open before it or not
abbrev pub starred_after : Bool → List ℕ → List ℕ
starred_after is_quoted [] = []
starred_after true (b ∷ bs) = b ∷ starred_after false bs
starred_after false (b ∷ bs) = (if b == 42 then star else b) ∷ starred_after (b == 92) bs

-- bytes in which no star follows a star, if there is one before them or not
abbrev pub single_after : Bool → List ℕ → List ℕ
single_after after_star [] = []
single_after after_star (b ∷ bs) = if after_star && b == star then single_after true bs else b ∷ single_after (b == star) bs

-- a text in which each `*` that no backslash quotes is a star, and stars side by side are one
abbrev pub starred : List ℕ → List ℕ
starred text = single_after false (starred_after false text)

-- the pattern that a text parses as: a name whose components and realm may have stars
abbrev pub pattern_of : List ℕ → Result Parts NameFault
pattern_of text = name_of (starred text) None

-- ---- what fits

-- a test holds of bytes, or of what is left without the first ones
abbrev pub of_some_rest : (List ℕ → Bool) → List ℕ → Bool
of_some_rest test [] = test []
of_some_rest test (b ∷ bs) = test (b ∷ bs) || of_some_rest test bs

-- bytes fit a pattern: the pattern has the same bytes, but where it has a star there are any bytes, or none
abbrev pub fits_bytes : List ℕ → List ℕ → Bool
fits_bytes [] [] = true
fits_bytes [] (b ∷ bs) = false
fits_bytes (p ∷ ps) [] = p == star && fits_bytes ps []
fits_bytes (p ∷ ps) (b ∷ bs) = if p == star then of_some_rest (fits_bytes ps) (b ∷ bs) else p == b && fits_bytes ps bs

-- a name fits a pattern: it has as many components, and each of them, and the realm, fits
abbrev pub fits : Parts → Parts → Bool
fits pattern p = pointwise fits_bytes pattern.components p.components && fits_bytes pattern.realm p.realm
