-- Texts that are UTF-8.
use Rattle.krb_json.proofs.Cited.{map, cond, ◌≡◌, ℕ, zero, suc, ◌<◌, ◌+◌, ◌/◌, ◌%◌, ◌==◌, arith, ◌++◌, lt-ltb, Bool, true, false, List, [], ◌∷◌, IsUtf8, IsAscii, ◌&&◌, refl, ltb, filter, is_utf8, and_parts, and_from, ltb-true, IsUtf8-from_is_utf8, is_utf8-from_IsUtf8, IsUtf8-from_ascii, flag_table, is_set, flag_letters_of, false_from_ne_true}
use Rattle.std.proofs.lemmas.Str.Ascii.{IsAscii-nil, IsAscii-cons}
use Rattle.krb_audit.specs.Report.{octal, mode_digits}
use Rattle.hex.specs.Hex.{encode_lower, lower_digits}
use Rattle.hex.proofs.HexLemmas.{IsAscii-encode_with}

pub utf8_is_text : (bytes : List ℕ) → IsUtf8 bytes → is_utf8 bytes ≡ true
utf8_is_text bytes h = is_utf8-from_IsUtf8 bytes h

pub other_is_no_text : (bytes : List ℕ) → (IsUtf8 bytes → ⊥) → is_utf8 bytes ≡ false
other_is_no_text bytes h = false_from_ne_true (is_utf8 bytes) (λ e. h (IsUtf8-from_is_utf8 bytes e))

-- ---- ASCII

-- all bytes are ASCII, as a test
abbrev are_ascii : List ℕ → Bool
are_ascii [] = true
are_ascii (b ∷ bytes) = ltb b 128 && are_ascii bytes

ascii_is_text : (bytes : List ℕ) → are_ascii bytes ≡ true → IsAscii bytes
ascii_is_text [] h = IsAscii-nil
ascii_is_text (b ∷ bytes) h =
    let parts = and_parts (ltb b 128) (are_ascii bytes) h in
    IsAscii-cons b bytes (ltb-true b 128 parts.0) (ascii_is_text bytes parts.1)

sixteen : IsAscii lower_digits
sixteen = ascii_is_text lower_digits refl

pub digits_are_text : (bytes : List ℕ) → is_utf8 (encode_lower bytes) ≡ true
digits_are_text bytes = is_utf8-from_IsUtf8 _ (IsUtf8-from_ascii _ (IsAscii-encode_with lower_digits bytes sixteen))

-- if all letters of a table are ASCII, so are those that pass a test
letters_are_ascii : (test : ℕ × ℕ → Bool) (table : List (ℕ × ℕ)) → are_ascii (map (λ x. x.1) table) ≡ true → are_ascii (map (λ x. x.1) (filter test table)) ≡ true
letters_are_ascii test [] h = refl
letters_are_ascii test (x ∷ table) h =
    let parts = and_parts (ltb x.1 128) (are_ascii (map (λ x. x.1) table)) h in
    let rest = letters_are_ascii test table parts.1 in
    elim (test x) as (λ b. are_ascii (map (λ x. x.1) (cond b (x ∷ filter test table) (filter test table))) ≡ true) [ true ↦ and_from _ _ parts.0 rest | false ↦ rest ]

one_more : (bytes : List ℕ) (b : ℕ) → are_ascii bytes ≡ true → b < 128 → are_ascii (bytes ++ b ∷ []) ≡ true
one_more [] b h lt = and_from _ _ (lt-ltb b 128 lt) refl
one_more (a ∷ bytes) b h lt =
    let parts = and_parts (ltb a 128) (are_ascii bytes) h in
    and_from _ _ parts.0 (one_more bytes b parts.1 lt)

octal_is_ascii : (places n : ℕ) → are_ascii (octal places n) ≡ true
octal_is_ascii zero n = refl
octal_is_ascii (suc places) n =
    let more = one_more (octal places (n / 8)) (48 + n % 8) (octal_is_ascii places (n / 8)) (omega arith) in
    elim (n == 0) as (λ b. are_ascii (cond b [] (octal places (n / 8) ++ (48 + n % 8) ∷ [])) ≡ true) [ true ↦ refl | false ↦ more ]

digits_are_ascii : (b : Bool) (n : ℕ) → are_ascii (cond b (48 ∷ []) (octal 4 n)) ≡ true
digits_are_ascii b n = grind (arith, octal_is_ascii 4 n)

-- the digits of a mode are UTF-8
pub mode_is_text : (mode : ℕ) → is_utf8 (mode_digits mode) ≡ true
mode_is_text mode = is_utf8-from_IsUtf8 _ (IsUtf8-from_ascii _ (ascii_is_text _ (digits_are_ascii (mode % 4096 == 0) (mode % 4096))))

-- the letters of ticket flags are UTF-8
pub letters_are_text : (flags : ℕ) → is_utf8 (flag_letters_of flags) ≡ true
letters_are_text flags = is_utf8-from_IsUtf8 _ (IsUtf8-from_ascii _ (ascii_is_text _ (letters_are_ascii (is_set flags) flag_table refl)))
