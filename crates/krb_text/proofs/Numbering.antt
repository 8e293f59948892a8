-- The day n days after 1970-01-01, counted day by day, has the day number n.
use Rattle.krb_text.proofs.Cited.{◌≡◌, ℕ, zero, suc, ◌+◌, ◌<◌, ◌≤◌, pos, neg_ℤ, ◌+ℤ◌, ◌≤ℤ◌, ◌∙◌, sym, refl, arith, Bool, true, false, nat_lt, ltb-true, ltb-false, if◌then◌else◌, ints, IsInRange, epoch_day_injective, days_from_civil-day_count, day_count-later_year, day_count-day_of_year, day_count-next_year, day_count-end}
use Rattle.jiff_core.specs.Calendar.{days_from_civil, days_in_month}
use Rattle.jiff_core.proofs.DateLemmas.{days_from_civil-day, days_from_civil-next_month, days_from_civil-next_year}
use Rattle.jiff_core.proofs.CalendarLemmas.{days_in_month_bounds}
use Rattle.jiff_core.proofs.StandardFacts.{known_days}
use Rattle.krb_text.specs.Calendar.{Day, next_day, day_number}
use Rattle.jiff_core.specs.Date.{epoch_day}
use Rattle.jiff_core.specs.declared.civil.date.Date.{Date}

-- a day of the calendar with that day number
pub record IsNumbered (d : Day) (n : ℕ) : Type 0 where
  pub month_in : IsInRange 1 12 d.month
  pub day_in : IsInRange 1 (days_in_month (pos d.year) d.month) d.day
  pub number : days_from_civil (pos d.year) d.month d.day ≡ pos n

-- the next day of a month has the next number
within_month : (y m d n : ℕ) → IsInRange 1 12 m → 1 ≤ d → d < days_in_month (pos y) m → days_from_civil (pos y) m d ≡ pos n → IsNumbered (record { year = y; month = m; day = d + 1 }) (suc n)
within_month y m d n month low lt e =
    let step = rw e at (days_from_civil-day (pos y) m d (d + 1) low (omega arith)) in
    record { month_in = month; day_in = (omega arith, omega arith); number = omega (arith, ints) }

-- so has the first day of the next month, after the last day of a month
next_month : (y m d n : ℕ) → 1 ≤ m → m < 12 → d ≡ days_in_month (pos y) m → days_from_civil (pos y) m d ≡ pos n → IsNumbered (record { year = y; month = m + 1; day = 1 }) (suc n)
next_month y m d n low lt last e =
    let step = rw e at (days_from_civil-next_month (pos y) m d low last) in
    let long = days_in_month_bounds (pos y) (m + 1) in
    record { month_in = (omega arith, omega arith); day_in = (omega arith, omega arith); number = omega (arith, ints) }

-- and January 1, after December 31
next_year : (y n : ℕ) → days_from_civil (pos y) 12 31 ≡ pos n → IsNumbered (record { year = y + 1; month = 1; day = 1 }) (suc n)
next_year y n e =
    let low : neg_ℤ (pos 10000) ≤ℤ pos y = omega (arith, ints) in
    let next : pos (y + 1) ≡ pos y +ℤ pos 1 = refl in
    let step = rw e at (days_from_civil-next_year (pos y) (pos (y + 1)) low next) in
    let long = days_in_month_bounds (pos (y + 1)) 1 in
    record { month_in = (omega arith, omega arith); day_in = (omega arith, omega arith); number = omega (arith, ints) }

-- by cases on the outcome of a test
by_test : {A : Type 0} (P : A → Type 0) (b : Bool) (x y : A) → (b ≡ true → P x) → (b ≡ false → P y) → P (if b then x else y)
by_test P b x y f g = search arith

-- the day after the one with number n has the next number
next_numbered : (d : Day) (n : ℕ) → IsNumbered d n → IsNumbered (next_day d) (suc n)
next_numbered d n is =
    let P : Day → Type 0 = λ e. IsNumbered e (suc n) in
    by_test P (nat_lt d.day (days_in_month (pos d.year) d.month)) _ _ (λ t. within_month d.year d.month d.day n is.month_in is.day_in.0 (ltb-true _ _ t) is.number)
    (λ f. let last : days_in_month (pos d.year) d.month ≤ d.day = ltb-false _ _ f in
    let is_last : d.day ≡ days_in_month (pos d.year) d.month = omega arith in
    by_test P (nat_lt d.month 12) _ _ (λ t. next_month d.year d.month d.day n is.month_in.0 (ltb-true _ _ t) is_last is.number)
    (λ f. let december : 12 ≤ d.month = ltb-false _ _ f in
    let month : d.month ≡ 12 = omega arith in
    let day : d.day ≡ 31 = rw month at is_last in
    next_year d.year n (rw (month, day) at is.number)))

-- the day that is counted n days after 1970-01-01 has the number n
pub numbered : (n : ℕ) → IsNumbered (day_number n) n
unfolding day_number
numbered zero = record { month_in = (omega arith, omega arith); day_in = (omega arith, omega arith); number = known_days.0 }
numbered (suc n) = next_numbered (day_number n) n (numbered n)

-- a day with a number up to 49710 is before the year 10000
year_below : (y m d n : ℕ) → 1 ≤ d → days_from_civil (pos y) m d ≡ pos n → n ≤ 49710 → y ≤ 9999
year_below y m d n low e le =
    let P : ℕ → Type 0 = λ k. y ≤ 9999 in
    by_test P (nat_lt 9999 y) 0 0
    (λ t. let after : 9999 < y = ltb-true _ _ t in
    let later = day_count-later_year (pos 9999) (pos y) (omega (arith, ints)) (omega (arith, ints)) in
    let end = day_count-next_year (pos 9999) (pos 10000) (omega (arith, ints)) refl in
    let place = day_count-day_of_year (pos y) m d low in
    let count = rw e at (days_from_civil-day_count (pos y) m d) in
    absurd (omega (arith, day_count-end)))
    (λ f. ltb-false _ _ f)

-- jiff's date with the same number is the same day
pub same_day : (date : Date) (n : ℕ) → n ≤ 49710 → epoch_day date ≡ pos n
    → (date.year ≡ pos (day_number n).year) × (date.month ≡ (day_number n).month) × (date.day ≡ (day_number n).day)
same_day date n le e =
    let is = numbered n in
    let below = year_below (day_number n).year (day_number n).month (day_number n).day n is.day_in.0 is.number le in
    let other : Date = record { year = pos (day_number n).year; month = (day_number n).month; day = (day_number n).day; year_in = (omega (arith, ints), omega (arith, ints)); month_in = is.month_in; day_in = is.day_in } in
    epoch_day_injective date other (e ∙ sym is.number)
