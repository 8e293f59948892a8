-- The days from 1970-01-01 on, counted one by one, and times as text (RFC 3339).
use Rattle.std.specs.Prelude.{ℕ, zero, suc, ◌+◌, ◌/◌, ◌%◌, List, pos, nat_lt, if◌then◌else◌, [], ◌∷◌, ◌++◌, codes}
use Rattle.jiff_core.specs.Calendar.{days_in_month}

-- ---- times as text, in UTC

-- the last decimal digit of a number, as a byte: `0` is 48
abbrev pub digit : ℕ → ℕ
digit n = 48 + n % 10

-- the last two decimal digits of a number
abbrev pub two_digits : ℕ → List ℕ
two_digits n = digit (n / 10) ∷ digit n ∷ []

-- the last four decimal digits of a number
abbrev pub four_digits : ℕ → List ℕ
four_digits n = digit (n / 1000) ∷ digit (n / 100) ∷ digit (n / 10) ∷ digit n ∷ []

-- a date and a second of its day as text: `YYYY-MM-DDTHH:MM:SSZ`
abbrev pub moment_text : ℕ → ℕ → ℕ → ℕ → List ℕ
moment_text year month day second =
    four_digits year ++ codes "-" ++ two_digits month ++ codes "-" ++ two_digits day ++ codes "T"
    ++ two_digits (second / 3600) ++ codes ":" ++ two_digits (second / 60 % 60) ++ codes ":" ++ two_digits (second % 60) ++ codes "Z"

-- ---- the days from 1970-01-01 on, counted one by one

-- a day of the calendar
pub record Day : Type 0 where
  pub year : ℕ
  pub month : ℕ
  pub day : ℕ

-- the day after a day
abbrev pub next_day : Day → Day
next_day d =
    if nat_lt d.day (days_in_month (pos d.year) d.month) then record { year = d.year; month = d.month; day = d.day + 1 }
    else (if nat_lt d.month 12 then record { year = d.year; month = d.month + 1; day = 1 }
    else record { year = d.year + 1; month = 1; day = 1 })

-- the day n days after 1970-01-01
unfoldable pub day_number : ℕ → Day
day_number zero = record { year = 1970; month = 1; day = 1 }
day_number (suc n) = next_day (day_number n)

-- a day and a second of the day as text
abbrev pub day_text : Day → ℕ → List ℕ
day_text d second = moment_text d.year d.month d.day second

-- a time in seconds from 1970-01-01T00:00:00Z as text
abbrev pub time_text_of : ℕ → List ℕ
time_text_of seconds = day_text (day_number (seconds / 86400)) (seconds % 86400)
