-- What a file is by its first bytes.
use Rattle.std.specs.Prelude.{ℕ, nat_eq, nat_le, ◌==◌, ◌||◌, ◌&&◌, not, Bool, true, false, List, [], ◌∷◌, take, length, codes, option_map, unwrap_or, Option, if◌then◌else◌}
use Rattle.std.specs.List.{find, list_all, list_any, starts_with}
use Rattle.krb_driver.specs.declared.beginning.Beginning.{Beginning}
use Rattle.krb_driver.specs.declared.beginning.Beginning.TheVariants.{Keytab, Cache, Gzip, Pem, JavaKeystore, Kirbi, Der, Zip, Base64Keytab, Base64Cache, Text, Unknown}

-- the first bytes of the kinds of files that messages name
unfoldable pub beginnings : List (List (List ℕ) × Beginning)
beginnings =
    ((5 ∷ 1 ∷ []) ∷ (5 ∷ 2 ∷ []) ∷ [], Keytab)
    ∷ ((5 ∷ 3 ∷ []) ∷ (5 ∷ 4 ∷ []) ∷ [], Cache)
    ∷ ((0x1f ∷ 0x8b ∷ []) ∷ [], Gzip)
    ∷ (codes "-----BEGIN" ∷ [], Pem)
    ∷ ((0xfe ∷ 0xed ∷ 0xfe ∷ 0xed ∷ []) ∷ [], JavaKeystore)
    ∷ ((0x76 ∷ 0x81 ∷ []) ∷ (0x76 ∷ 0x82 ∷ []) ∷ [], Kirbi)
    ∷ ((0x30 ∷ 0x82 ∷ []) ∷ [], Der)
    ∷ ((0x50 ∷ 0x4b ∷ 3 ∷ 4 ∷ []) ∷ [], Zip)
    ∷ (codes "BQI" ∷ codes "BQE" ∷ [], Base64Keytab)
    ∷ (codes "BQQ" ∷ codes "BQM" ∷ [], Base64Cache)
    ∷ []

-- a byte is one of a text: it prints, or is a tab or the end of a line
abbrev pub is_text_byte : ℕ → Bool
is_text_byte b = (nat_le 0x20 b && nat_le b 0x7e) || ((b == 9) || ((b == 10) || (b == 13)))

-- the first 64 bytes of an image, or all if there are fewer, are those of a text
abbrev pub is_text : List ℕ → Bool
is_text image =
    if nat_le 64 (length image) then list_all is_text_byte (take 64 image)
    else (not (length image == 0) && list_all is_text_byte image)

-- the kind of a file that an image's first bytes show, if they are known
abbrev pub known : List ℕ → Option Beginning
known image = option_map (λ row. row.1) (find (λ row. list_any (starts_with nat_eq image) row.0) beginnings)

-- what an image begins as: a kind of file that is known, a text, or neither
abbrev pub begins_as : List ℕ → Beginning
begins_as image = unwrap_or (known image) (if is_text image then Text else Unknown)

-- an image begins as a keytab
abbrev pub is_keytab : Beginning → Bool
is_keytab Keytab = true
is_keytab begins = false

-- the phrase for a file that begins so and is none that is read, or another phrase
abbrev pub beginning_phrase : Beginning → List ℕ → List ℕ
beginning_phrase Gzip other = codes "it is gzip, and not read"
beginning_phrase Pem other = codes "it is PEM, and not read"
beginning_phrase JavaKeystore other = codes "it is a Java keystore, and not read"
beginning_phrase Kirbi other = codes "it is a .kirbi, and not read"
beginning_phrase Der other = codes "it is DER, and not read"
beginning_phrase Zip other = codes "it is a zip file, and not read"
beginning_phrase Base64Keytab other = codes "it is base64 of a keytab, and not read"
beginning_phrase Base64Cache other = codes "it is base64 of a cache, and not read"
beginning_phrase Text other = codes "it is text, and not read"
beginning_phrase begins other = other
