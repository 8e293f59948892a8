-- Encryption types by IANA's numbers and MIT's names. Key sizes: RFC 3961 (16), 3962 (17, 18), 8009 (19, 20), 4757 (23), 6803 (25, 26) (IANA, RFC 3961).
-- The names are those that MIT Kerberos reads. And keys as hexadecimal text.
use Rattle.std.specs.Prelude.{ℕ, List, [], ◌∷◌, ◌++◌, ◌==◌, codes, decimal, Option, None, Some, map, unwrap_or, Bool, true, false, slice_get, length, if◌then◌else◌}
use Rattle.std.specs.List.{find, list_any}
use Rattle.std.specs.Option.{option_and_then, option_map_or}
use Rattle.std.specs.Str.{str_eq_ignore_ascii_case}
use Rattle.std.specs.Result.{result_ok}
use Rattle.krb_text.specs.Numbers.{number_in}
use Rattle.hex.specs.Hex.{encode_lower, decode_of}

-- an enctype: its number, its names, the size of its keys in bytes if it has a name, and whether MIT calls it weak or deprecated. The first name is MIT's, the second is short, and all names are read.
pub record Etype : Type 0 where
  pub number : ℕ
  pub names : List (List ℕ)
  pub key_size : Option ℕ
  pub is_weak : Bool

-- a weak enctype that has no name here, as those of single DES
abbrev pub weak_unnamed : ℕ → Etype
weak_unnamed n = record { number = n; names = []; key_size = None; is_weak = true }

-- the enctypes that have a name here or are weak, by their numbers
unfoldable pub etype_table : List Etype
etype_table =
    map weak_unnamed (1 ∷ 2 ∷ 3 ∷ 4 ∷ 6 ∷ 8 ∷ []) ++
    (record { number = 16; names = codes "des3-cbc-sha1" ∷ codes "des3" ∷ codes "des3-hmac-sha1" ∷ codes "des3-cbc-sha1-kd" ∷ []; key_size = Some 24; is_weak = true }
    ∷ record { number = 17; names = codes "aes128-cts-hmac-sha1-96" ∷ codes "aes128" ∷ codes "aes128-cts" ∷ codes "aes128-sha1" ∷ []; key_size = Some 16; is_weak = false }
    ∷ record { number = 18; names = codes "aes256-cts-hmac-sha1-96" ∷ codes "aes256" ∷ codes "aes256-cts" ∷ codes "aes256-sha1" ∷ []; key_size = Some 32; is_weak = false }
    ∷ record { number = 19; names = codes "aes128-cts-hmac-sha256-128" ∷ codes "aes128-sha2" ∷ []; key_size = Some 16; is_weak = false }
    ∷ record { number = 20; names = codes "aes256-cts-hmac-sha384-192" ∷ codes "aes256-sha2" ∷ []; key_size = Some 32; is_weak = false }
    ∷ record { number = 23; names = codes "arcfour-hmac" ∷ codes "rc4" ∷ codes "rc4-hmac" ∷ codes "arcfour-hmac-md5" ∷ []; key_size = Some 16; is_weak = true }
    ∷ weak_unnamed 24
    ∷ record { number = 25; names = codes "camellia128-cts-cmac" ∷ codes "camellia128" ∷ codes "camellia128-cts" ∷ []; key_size = Some 16; is_weak = false }
    ∷ record { number = 26; names = codes "camellia256-cts-cmac" ∷ codes "camellia256" ∷ codes "camellia256-cts" ∷ []; key_size = Some 32; is_weak = false }
    ∷ [])

-- the enctype with a number, if the table has it
abbrev pub etype_numbered : ℕ → Option Etype
etype_numbered n = find (λ e. e.number == n) etype_table

-- the names of an enctype
abbrev pub etype_names : ℕ → List (List ℕ)
etype_names n = option_map_or (λ e. e.names) (etype_numbered n) []

-- the name of an enctype that is printed, MIT's, if the enctype has a name
abbrev pub etype_name_of : ℕ → Option (List ℕ)
etype_name_of n = slice_get (etype_names n) 0

-- the short name of an enctype, if the enctype has a name
abbrev pub short_name_of : ℕ → Option (List ℕ)
short_name_of n = slice_get (etype_names n) 1

-- the size of an enctype's keys in bytes, if the enctype has a name
abbrev pub key_size_of : ℕ → Option ℕ
key_size_of n = option_and_then (λ e. e.key_size) (etype_numbered n)

-- an enctype is weak or deprecated, as MIT calls it
abbrev pub is_weak : ℕ → Bool
is_weak n = option_map_or (λ e. e.is_weak) (etype_numbered n) false

-- the text of an enctype that has no name
abbrev pub unnamed : ℕ → List ℕ
unnamed n = codes "etype " ++ decimal n

-- the text of an enctype: MIT's name of it, or `etype ` and its number in decimal
abbrev pub etype_text_of : ℕ → List ℕ
etype_text_of n = unwrap_or (etype_name_of n) (unnamed n)

-- a text is a name of an enctype, in either case of letters
abbrev pub is_named : List ℕ → ℕ → Bool
is_named text n = list_any (λ name. str_eq_ignore_ascii_case name text) (etype_names n)

-- the number of the enctype with this name
abbrev pub number_named : List ℕ → Option ℕ
number_named text = find (is_named text) (map (λ e. e.number) etype_table)

-- the first number, or if it is missing the second
abbrev pub first_of : Option ℕ → Option ℕ → Option ℕ
first_of (Some n) other = Some n
first_of None other = other

-- the enctype that a text means: by a name, or by one to ten decimal digits of a number below 2 ^ 16
unfoldable pub etype_in : List ℕ → Option ℕ
etype_in text = first_of (number_named text) (number_in 16 text)

-- ---- keys as hexadecimal text

-- a key as text: `0x` and its bytes in hexadecimal, in lower case
abbrev pub key_text_of : List ℕ → List ℕ
key_text_of key = codes "0x" ++ encode_lower key

-- a key size is the right one, if one is known
abbrev pub is_right : Option ℕ → ℕ → Bool
is_right None size = true
is_right (Some right) size = size == right

-- a key of an enctype may have this size: that of the table, or any if the table has no name for the enctype
abbrev pub is_key_size : ℕ → ℕ → Bool
is_key_size etype size = is_right (key_size_of etype) size

-- the bytes of a key, if a key of the enctype may have this size
abbrev pub sized : ℕ → Option (List ℕ) → Option (List ℕ)
sized etype None = None
sized etype (Some key) = if is_key_size etype (length key) then Some key else None

-- the key of an enctype that hexadecimal digits in either case spell, if it has the enctype's size
abbrev pub key_in : ℕ → List ℕ → Option (List ℕ)
key_in etype digits = sized etype (result_ok (decode_of digits))
