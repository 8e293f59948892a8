-- The words of a line.
use Rattle.std.specs.Prelude.{ℕ, List, None, ok_or, Result, [], ◌∷◌, ◌==◌, Option, Some}
use Rattle.std.specs.Result.{result_ok}
use Rattle.krb_wire.specs.Spelling.{Parts}
use Rattle.krb_wire.specs.NameOf.{name_of}
use Rattle.krb_text.specs.declared.line_fault.LineFault.{LineFault}
use Rattle.krb_text.specs.declared.line_fault.LineFault.TheVariants.{BadNumber, BadEtype, BadKey, BadName}
use Rattle.krb_text.specs.Numbers.{number_in}
use Rattle.krb_text.specs.Etype.{etype_in, key_in}
use Rattle.std.specs.List.{slice_split, join_with_byte}

-- the number of 32 bits that a word spells
abbrev pub number_word : List ℕ → Result ℕ LineFault
number_word word = ok_or (number_in 32 word) BadNumber

-- the enctype that a word means, by name or by number
abbrev pub etype_word : List ℕ → Result ℕ LineFault
etype_word word = ok_or (etype_in word) BadEtype

-- the key of an enctype that a word spells in hexadecimal
abbrev pub key_word : ℕ → List ℕ → Result (List ℕ) LineFault
key_word etype word = ok_or (key_in etype word) BadKey

-- the principal name that a word spells, with its realm
abbrev pub name_word : List ℕ → Result Parts LineFault
name_word word = ok_or (result_ok (name_of word None)) BadName

-- ---- splitting a text at each occurrence of a byte

-- a text split at each byte `at`
abbrev pub pieces : ℕ → List ℕ → List (List ℕ)
pieces at text = slice_split (λ b. b == at) text

-- the pieces of the rest of a text, if there is a rest
abbrev pub pieces_left : ℕ → Option (List ℕ) → List (List ℕ)
pieces_left at None = []
pieces_left at (Some text) = pieces at text

-- the pieces joined again, if there are any
abbrev pub joined : ℕ → List (List ℕ) → Option (List ℕ)
joined at [] = None
joined at (piece ∷ others) = Some (join_with_byte at (piece ∷ others))
