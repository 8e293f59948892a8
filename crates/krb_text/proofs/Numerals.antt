-- Decimal digits, and what `parse` returns for them.
use Rattle.krb_text.proofs.Cited.{◌≡◌, ℕ, ◌<◌, List, length, true, false, Result, Bor, arith, rules, list_all, result_ok, MatchResult, MatchOption, and_parts, ltb-true, is_ascii_digit, IsAscii-from_digits}
use Rattle.std.specs.Str.{IsUtf8}
use Rattle.std.specs.Str.Parse.{digits_value, ParsesUnsigned}
use Rattle.std.proofs.lemmas.Str.{IsUtf8-from_ascii}
use Rattle.std.proofs.lemmas.Str.Parse.{IsNumeralModel, numerals_by_value, parse_digits}
use Rattle.krb_text.specs.Numbers.{is_numeral, number_in}

-- the digits and their value are those of `parse`
own : IsNumeralModel (λ ds. list_all is_ascii_digit ds ≡ true) (digits_value 10)
own = numerals_by_value _ (search rules)

-- one to ten digits are at least one byte, and all are digits
digits-numeral : (text : List ℕ) → is_numeral text ≡ true → (0 < length text) × (list_all is_ascii_digit text ≡ true)
digits-numeral text h = search (arith, and_parts, ltb-true)

-- digits are UTF-8
pub IsUtf8-numeral : (text : List ℕ) → is_numeral text ≡ true → IsUtf8 text
IsUtf8-numeral text h = IsUtf8-from_ascii text (IsAscii-from_digits text (own.to text (digits-numeral text h).1))

-- so `from_utf8` accepts them
pub numeral_text : {E : Type 0} (r : Result (Bor (List ℕ)) E) (t : List ℕ) (Q : E → Type 0) → is_numeral t ≡ true → MatchResult r (λ s. (s.now ≡ t) × IsUtf8 t) (λ e. ¬ (IsUtf8 t) × Q e)
    → MatchOption (result_ok r) (is_numeral t ≡ false) (λ d. (is_numeral t ≡ true) × (d.now ≡ t))
numeral_text r t Q h m = search (arith, IsUtf8-numeral)

-- what `parse` returns is the number
pub number_in-parsed : {E : Type 0} (bits : ℕ) (text : List ℕ) (r : Result ℕ E) → is_numeral text ≡ true → ParsesUnsigned bits 10 text r → result_ok r ≡ number_in bits text
number_in-parsed bits text r h gives = search (arith, ltb-true, digits-numeral, parse_digits own bits text r gives)
