-- Times relative to the clock.
use Rattle.std.specs.Prelude.{ℕ, ◌-◌, ◌/◌, ◌%◌, ◌==◌, nat_le, nat_lt, List, [], ◌∷◌, ◌++◌, ◌&&◌, codes, decimal, unwrap_or, if◌then◌else◌}
use Rattle.std.specs.List.{find}

-- the units of time spans, the greatest first: their seconds and their text
abbrev pub units : List (ℕ × List ℕ)
units = (31536000, codes " y") ∷ (86400, codes " d") ∷ (3600, codes " h") ∷ (60, codes " min") ∷ []

-- the greatest unit of at most some seconds, or else the second
abbrev pub unit_within : ℕ → ℕ × List ℕ
unit_within most = unwrap_or (find (λ unit. nat_le unit.0 most) units) (1, codes " s")

-- the unit of some seconds: the greatest that fits twice or more
abbrev pub unit_of : ℕ → ℕ × List ℕ
unit_of n = unit_within (n / 2)

-- the next smaller unit
abbrev pub smaller_unit : ℕ → ℕ × List ℕ
smaller_unit unit = unit_within (unit - 1)

-- some seconds in a unit as text, rounded down
abbrev pub in_unit : ℕ × List ℕ → ℕ → List ℕ
in_unit unit n = decimal (n / unit.0) ++ unit.1

-- some seconds as text, in their unit
unfoldable pub span : ℕ → List ℕ
span n = in_unit (unit_of n) n

-- what a unit leaves of some seconds as text, in the next smaller unit: of less than ten units, if it is one or more
unfoldable pub rest : ℕ → ℕ → List ℕ
rest unit n =
    if nat_lt (n / unit) 10 && nat_le (smaller_unit unit).0 (n % unit) then codes " " ++ in_unit (smaller_unit unit) (n % unit) else []

-- a time to come, in that many seconds
abbrev pub ahead : ℕ → List ℕ
ahead n = codes "in " ++ (span n ++ rest (unit_of n).0 n)

-- a time, seen from the clock's
abbrev pub ago : ℕ → ℕ → List ℕ
ago now time =
    if time == now then codes "now"
    else (if nat_lt time now then span (now - time) ++ codes " ago"
    else ahead (time - now))

-- a time as a cell: `-` for the time 0
abbrev pub time_cell : ℕ → ℕ → List ℕ
time_cell now time = if time == 0 then codes "-" else ago now time
