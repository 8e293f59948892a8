-- Numbers in decimal.
use Rattle.std.specs.Prelude.{ℕ, ◌^◌, ◌*◌, ◌-◌, ◌==◌, List, length, take, Bool, ◌&&◌, nat_lt, nat_le, get_or, if◌then◌else◌, Option, None, Some, ◌++◌, decimal, replicate}
use Rattle.std.specs.Option.{option_and_then}
use Rattle.std.specs.List.{list_all}
use Rattle.std.specs.Char.{is_ascii_digit}
use Rattle.std.specs.Str.Parse.{digits_value}

-- a number in decimal, right-aligned in four columns
abbrev pub right_in_4 : ℕ → List ℕ
right_in_4 n = replicate (4 - length (decimal n)) 32 ++ decimal n

-- a text is one to ten decimal digits
abbrev pub is_numeral : List ℕ → Bool
is_numeral text = nat_lt 0 (length text) && (nat_le (length text) 10 && list_all is_ascii_digit text)

-- the number that one to ten decimal digits spell, if it is below 2 ^ bits
abbrev pub number_in : ℕ → List ℕ → Option ℕ
number_in bits text =
    if is_numeral text && nat_lt (digits_value 10 text) (2 ^ bits) then Some (digits_value 10 text) else None

-- a value, if it fits 32 bits
abbrev pub in_32 : ℕ → Option ℕ
in_32 n = if nat_lt n (2 ^ 32) then Some n else None

-- the seconds of the unit with a letter: seconds, minutes, hours or days
abbrev pub seconds_of_unit : ℕ → Option ℕ
seconds_of_unit letter =
    if letter == 115 then Some 1
    else (if letter == 109 then Some 60
    else (if letter == 104 then Some 3600
    else (if letter == 100 then Some 86400
    else None)))

-- the bytes before the last one
abbrev pub before_last : List ℕ → List ℕ
before_last text = take (length text - 1) text

-- the seconds that a text is, if its last byte is a unit's letter or none
abbrev pub seconds_by : List ℕ → Option ℕ → Option ℕ
seconds_by text None = number_in 32 text
seconds_by text (Some unit) = option_and_then (λ n. in_32 (n * unit)) (number_in 32 (before_last text))

-- the seconds that a text means: a number, and perhaps a unit, s, m, h or d
unfoldable pub seconds_in : List ℕ → Option ℕ
seconds_in text = seconds_by text (seconds_of_unit (get_or text (length text - 1) 0))
