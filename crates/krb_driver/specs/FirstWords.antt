-- The first word of a script's line, if it is safe to show.
use Rattle.std.specs.Prelude.{ℕ, ◌-◌, List, [], ◌++◌, length, replicate, take, slice_get, unwrap_or, Bool, not, ◌&&◌, nat_le, if◌then◌else◌, Option, None, Some}
use Rattle.std.specs.Char.{is_ascii_hexdigit}
use Rattle.std.specs.List.{list_any}
use Rattle.krb_text.specs.Word.{pieces}
use Rattle.krb_driver.specs.declared.first_word.FirstWord.{FirstWord}

-- the line of a script with a number, counted from 1
abbrev pub line_at : List ℕ → ℕ → List ℕ
line_at script number = unwrap_or (slice_get (pieces 10 script) (number - 1)) []

-- the first word of a script's line
abbrev pub first_word : List ℕ → List ℕ
first_word line = unwrap_or (slice_get (pieces 32 line) 0) []

-- a byte is no hexadecimal digit
abbrev pub no_digit : ℕ → Bool
no_digit b = not (is_ascii_hexdigit b)

-- a word can be no part of a key, so that a message may show it: at most 16 bytes, of which one is no hexadecimal digit
abbrev pub is_safe : List ℕ → Bool
is_safe word = nat_le (length word) 16 && list_any no_digit word

-- a word of at most 16 bytes, as an error holds it
abbrev pub first_word_of : List ℕ → FirstWord
first_word_of word = record { bytes = word ++ replicate (16 - length word) 0; len = length word }

-- the bytes of such a word
abbrev pub word_text : FirstWord → List ℕ
word_text word = take word.len word.bytes

-- the word that a message may show, if it can be no part of a key
abbrev pub safe_word : List ℕ → Option FirstWord
safe_word word = if is_safe word then Some (first_word_of word) else None
