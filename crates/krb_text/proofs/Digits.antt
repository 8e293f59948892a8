-- Hexadecimal digits, and the keys that they encode.
use Rattle.krb_text.proofs.Cited.{◌≡◌, ℕ, ◌/◌, ◌%◌, List, [], ◌∷◌, length, true, false, Result, Ok, Err, refl, arith, is_ok, is_some, list_all, decode_of, is_hex_digit, is_ascii_hexdigit, AllPass-from_list_all, list_all-from_AllPass, decode_of-ok, decode_of-digits, is_key_size, key_in}
use Rattle.hex.specs.declared.error.FromHexError.{FromHexError}

-- both tests accept the same digits
same_digits : (xs : List ℕ) → list_all is_ascii_hexdigit xs ≡ list_all is_hex_digit xs
same_digits [] = refl
same_digits (c ∷ cs) = grind (arith, same_digits cs)

-- if a text decodes, all its bytes are digits
passes : (text : List ℕ) (r : Result (List ℕ) FromHexError) → decode_of text ≡ r → is_ok r ≡ true → list_all is_hex_digit text ≡ true
passes text (Ok bytes) e h = list_all-from_AllPass is_hex_digit text (decode_of-ok text bytes e).1
passes text (Err fault) e h = let no : false ≡ true = h in cc

-- a text of even length decodes iff all its bytes are digits
pub hexadecimal_even : (text : List ℕ) → length text % 2 ≡ 0 → list_all is_ascii_hexdigit text ≡ is_ok (decode_of text)
hexadecimal_even text even = search (arith, same_digits, decode_of-digits, AllPass-from_list_all, passes)

-- a text that decodes is a key of an enctype iff half its length is a size of such keys
pub key_of_size : (etype : ℕ) (text : List ℕ) (r : Result (List ℕ) FromHexError) → decode_of text ≡ r → is_ok r ≡ true → is_key_size etype (length text / 2) ≡ is_some (key_in etype text)
key_of_size etype text r e h = search (arith, decode_of-ok)
