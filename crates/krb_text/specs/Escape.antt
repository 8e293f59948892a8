-- Any bytes as printable text.
use Rattle.std.specs.Prelude.{ℕ, ◌==◌, List, [], ◌∷◌, ◌++◌, codes, Bool, ◌&&◌, if◌then◌else◌, nat_le}
use Rattle.std.specs.List.{flat_map}
use Rattle.hex.specs.Hex.{encode_lower}

-- a byte prints: it is from the space to `~`
abbrev pub is_printable : ℕ → Bool
is_printable b = nat_le 32 b && nat_le b 126

-- a byte as printable text: a backslash is doubled, and a byte that does not print is `\x` and two hexadecimal digits in lower case
abbrev pub escaped : ℕ → List ℕ
escaped b = if b == 92 then codes "\\\\" else (if is_printable b then b ∷ [] else codes "\\x" ++ encode_lower (b ∷ []))

-- bytes as printable text, each byte escaped
abbrev pub escaped_text : List ℕ → List ℕ
escaped_text bytes = flat_map escaped bytes
