-- Names, encryption types and times as text.
use Rattle.samples.proofs.Cited.{refl, filter_map, ◌≡◌, [], ◌∷◌, codes, map, None, Some, Ok, Err, true, false, name_of, etype_in, etype_text_of, key_size_of, is_weak, seconds_in}
use Rattle.krb_wire.specs.declared.name_fault.NameFault.TheVariants.{NoRealm, LoneBackslash, SecondAt, SlashInRealm}
use Rattle.krb_wire.specs.Names.{name_text}
use Rattle.krb_names.specs.Patterns.{fits, pattern_of, star}
use Rattle.krb_text.specs.Word.{pieces}
use Rattle.samples.proofs.Given.{hex, name}
use Rattle.samples.proofs.Unfolded.{on_literals}

-- ---- names

-- `/` separates components, and `@` begins the realm; components may be empty, and so may the realm
parts : map (λ text. name_of text None) (codes "host/a@R" ∷ codes "a//@" ∷ codes "@R" ∷ [])
    ≡ Ok (record { name_type = 1; realm = codes "R"; components = codes "host" ∷ codes "a" ∷ [] })
    ∷ Ok (record { name_type = 1; realm = []; components = codes "a" ∷ [] ∷ [] ∷ [] }) ∷ Ok (record { name_type = 1; realm = codes "R"; components = [] ∷ [] }) ∷ []
unfolding on_literals
parts = refl

-- a backslash quotes the byte after it, and `\n`, `\t`, `\b` and `\0` are newline, tab, backspace and NUL; a name prints with the same quotes
quoted : (name_of (codes "a\\/b\\@c\\\\\\n\\0@R\\/S\\@T") None ≡ Ok (record { name_type = 1; realm = codes "R/S@T"; components = hex (codes "612f6240635c0a00") ∷ [] }))
    × (name_text (name (codes "a\\/b\\@c\\\\\\n\\0@R\\/S\\@T")) ≡ codes "a\\/b\\@c\\\\\\n\\0@R\\/S\\@T")
unfolding on_literals
quoted = (refl, refl)

-- without `@` the realm is the default one
default-realm : map (λ text. name_of text (Some (codes "R"))) (codes "a" ∷ [] ∷ [])
    ≡ Ok (record { name_type = 1; realm = codes "R"; components = codes "a" ∷ [] }) ∷ Ok (record { name_type = 1; realm = codes "R"; components = [] ∷ [] }) ∷ []
unfolding on_literals
default-realm = refl

-- faults are no `@` and no default realm, a backslash at the end, a second `@` and a `/` in the realm; of several the one furthest left counts
name-faults : map (λ text. name_of text None) (codes "a" ∷ codes "a\\" ∷ codes "a@b@c/\\" ∷ codes "a@b/c" ∷ [])
    ≡ Err NoRealm ∷ Err LoneBackslash ∷ Err SecondAt ∷ Err SlashInRealm ∷ []
unfolding on_literals
name-faults = refl

-- a `*` without a backslash is a star in a pattern, any bytes of a component or of the realm
stars : pattern_of (codes "**a\\*/\\\\*@R*") ≡ Ok (record { name_type = 1; realm = 82 ∷ star ∷ []; components = (star ∷ codes "a*") ∷ (92 ∷ star ∷ []) ∷ [] })
unfolding on_literals
stars = refl

fitting : map (λ text. fits (record { name_type = 1; realm = codes "R"; components = (star ∷ 97 ∷ star ∷ 98 ∷ []) ∷ [] }) (name text)) (codes "aab@R" ∷ codes "abba@R" ∷ codes "ab@S" ∷ codes "ab/b@R" ∷ [])
    ≡ true ∷ false ∷ false ∷ false ∷ []
unfolding on_literals
fitting = refl

-- ---- encryption types, by IANA's numbers and MIT's names

-- the first of a type's names is printed, or its number; any is read, in either case of letters, and so is the number
etype : (map etype_text_of (23 ∷ 65535 ∷ []) ≡ codes "arcfour-hmac" ∷ codes "etype 65535" ∷ []) × (map etype_in (codes "RC4-hmac" ∷ codes "23" ∷ []) ≡ Some 23 ∷ Some 23 ∷ [])
unfolding on_literals
etype = (refl, refl)

-- all names that are read, which MIT's programs read too
etype-names : map etype_in (pieces 32 (codes "des3-cbc-sha1 des3-hmac-sha1 des3-cbc-sha1-kd aes128-cts-hmac-sha1-96 aes128-cts aes128-sha1 aes256-cts-hmac-sha1-96 aes256-cts aes256-sha1 aes128-cts-hmac-sha256-128 aes128-sha2 aes256-cts-hmac-sha384-192 aes256-sha2 arcfour-hmac rc4-hmac arcfour-hmac-md5 camellia128-cts-cmac camellia128-cts camellia256-cts-cmac camellia256-cts"))
    ≡ Some 16 ∷ Some 16 ∷ Some 16 ∷ Some 17 ∷ Some 17 ∷ Some 17 ∷ Some 18 ∷ Some 18 ∷ Some 18 ∷ Some 19 ∷ Some 19 ∷ Some 20 ∷ Some 20 ∷ Some 23 ∷ Some 23 ∷ Some 23 ∷ Some 25 ∷ Some 25 ∷ Some 26 ∷ Some 26 ∷ []
unfolding on_literals
etype-names = refl

-- the sizes of keys in bytes (RFC 3961, 3962, 8009, 4757, 6803)
key-size : filter_map key_size_of (16 ∷ 17 ∷ 18 ∷ 19 ∷ 20 ∷ 23 ∷ 25 ∷ 26 ∷ [])
    ≡ 24 ∷ 16 ∷ 32 ∷ 16 ∷ 32 ∷ 16 ∷ 16 ∷ 32 ∷ []
unfolding on_literals
key-size = refl

-- MIT calls triple DES and RC4 deprecated
weak : (is_weak 16 ≡ true) × (is_weak 23 ≡ true) × (is_weak 18 ≡ false)
unfolding on_literals
weak = (refl, refl, refl)

-- ---- durations

-- a number of seconds, or of the unit whose letter is after it: seconds, minutes, hours or days
seconds : (seconds_in (codes "90") ≡ Some 90) × (seconds_in (codes "15m") ≡ Some 900) × (seconds_in (codes "7d") ≡ Some 604800)
unfolding on_literals
seconds = (refl, refl, refl)
