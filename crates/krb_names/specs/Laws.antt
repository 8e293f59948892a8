-- Laws of patterns.
use Rattle.std.specs.Prelude.{◌≡◌, ◌<◌, ℕ, List, length, false, None, Ok}
use Rattle.std.specs.Str.{bytes_eq}
use Rattle.krb_wire.specs.Names.{name_text}
use Rattle.krb_wire.specs.NameOf.{name_of}
use Rattle.krb_wire.specs.Spelling.{Parts}
use Rattle.krb_names.specs.Patterns.{fits, has_star, pattern_of, starred}

-- a text without a star, and without the byte of one, asks as a pattern for the names that print as the name it spells, but for none without components
abbrev pub IsNameWithoutStar : Type 0
IsNameWithoutStar = (text : List ℕ) (pattern : Parts) → has_star (starred text) ≡ false → pattern_of text ≡ Ok pattern
    → (name_of text None ≡ Ok pattern) × ((p : Parts) → 0 < length p.components → fits pattern p ≡ bytes_eq (name_text pattern) (name_text p))

-- a name without components fits no pattern that a text spells
abbrev pub HasComponents : Type 0
HasComponents = (text : List ℕ) (pattern p : Parts) → pattern_of text ≡ Ok pattern → length p.components ≡ 0 → fits pattern p ≡ false
