-- Control characters, and texts in which they are escaped for a terminal or in JSON.
use Rattle.std.specs.Prelude.{ℕ, ◌/◌, ◌%◌, ◌==◌, List, [], ◌∷◌, ◌++◌, codes, Bool, true, false, ◌&&◌, ◌||◌, not, if◌then◌else◌, nat_lt, nat_le}
use Rattle.std.specs.Char.{digit_char}
use Rattle.krb_wire.specs.declared.controls.Style.{Style}
use Rattle.krb_wire.specs.declared.controls.Style.TheVariants.{Terminal, Json}

-- a byte that is a control character: 7f, and for a terminal one below hexadecimal 20, but no newline
abbrev pub is_control : Style → ℕ → Bool
is_control Terminal b = (nat_lt b 32 && not (b == 10)) || (b == 127)
is_control Json b = b == 127

-- a byte from 80 to 9f: after a c2 it ends a control character
abbrev pub is_second : ℕ → Bool
is_second b = nat_le 128 b && nat_le b 159

-- what an escape begins with: for a terminal, that of a pair has its first byte too
abbrev pub mark : Style → Bool → List ℕ
mark Terminal is_pair = if is_pair then codes "\\xc2\\x" else codes "\\x"
mark Json is_pair = codes "\\u00"

-- a byte in two hexadecimal digits
abbrev pub digits : ℕ → List ℕ
digits b = digit_char (b / 16) ∷ digit_char (b % 16) ∷ []

-- the escape of a byte, or of a pair that it ends
abbrev pub escape : Style → Bool → ℕ → List ℕ
escape style is_pair b = mark style is_pair ++ digits b

-- a byte that ends no pair. A c2 is held back, since the next byte may end one
abbrev pub single : Style → ℕ → List ℕ
single style b = if b == 194 then [] else (if is_control style b then escape style false b else b ∷ [])

-- what a byte adds, after a c2 that is held back or not
abbrev pub added : Style → Bool → ℕ → List ℕ
added style false b = single style b
added style true b = if is_second b then escape style true b else 194 ∷ single style b

-- a text in which control characters are escaped, after a c2 that is held back or not
unfoldable pub escaped : Style → Bool → List ℕ → List ℕ
escaped style holds [] = if holds then 194 ∷ [] else []
escaped style holds (b ∷ rest) = added style holds b ++ escaped style (b == 194) rest
