-- Names as text (MIT krb5_parse_name).
use Rattle.std.specs.Prelude.{ℕ, List, ◌∷◌, ◌++◌, map, ◌≡◌, [], if◌then◌else◌, ◌==◌, Bool, ◌&&◌}
use Rattle.std.specs.List.{join_with_byte, flat_map}
use Rattle.krb_wire.specs.Spelling.{Parts}
use Rattle.std.specs.Cmp.Lexicographic.{pointwise}
use Rattle.std.specs.Str.{bytes_eq}

-- ---- the bytes of a component or a realm as text

-- a byte of a name as text: `/`, `@` and `\` have a backslash before them, newline, tab, backspace and NUL are `\n`, `\t`, `\b`, `\0`, and any other byte is itself
abbrev pub quoted_byte : ℕ → List ℕ
quoted_byte b =
    if b == 47 then 92 ∷ 47 ∷ []
    else (if b == 64 then 92 ∷ 64 ∷ []
    else (if b == 92 then 92 ∷ 92 ∷ []
    else (if b == 10 then 92 ∷ 110 ∷ []
    else (if b == 9 then 92 ∷ 116 ∷ []
    else (if b == 8 then 92 ∷ 98 ∷ []
    else (if b == 0 then 92 ∷ 48 ∷ []
    else b ∷ []))))))

-- a byte that is not quoted
abbrev pub IsPlain : ℕ → Type 0
IsPlain b = quoted_byte b ≡ b ∷ []

-- a component or a realm as text, each byte quoted if it needs a backslash
unfoldable pub quote : List ℕ → List ℕ
quote bytes = flat_map quoted_byte bytes

-- ---- names as text

-- the components of a name as text, with a `/` between each two
unfoldable pub joined_components : List (List ℕ) → List ℕ
joined_components components = join_with_byte 47 (map quote components)

-- a name as text: its components joined by `/`, an `@`, and its realm
abbrev pub name_text : Parts → List ℕ
name_text p = joined_components p.components ++ (64 ∷ quote p.realm)

-- ---- when two names are the same

-- two names have equal realms and components; name types may differ
abbrev pub have_same_name : Parts → Parts → Bool
have_same_name p q = bytes_eq p.realm q.realm && pointwise bytes_eq p.components q.components
