-- Hints: the commands that show what can be done about findings.
use Rattle.std.specs.Prelude.{◌≡◌, ℕ, ◌+◌, ◌<◌, ◌==◌, List, [], ◌∷◌, ◌++◌, length, codes, decimal, Bool, false, not, ◌&&◌, ◌||◌, if◌then◌else◌, nat_le, get_or, Option, None, Some, is_some, unwrap_or}
use Rattle.std.specs.Char.{is_ascii_alphanumeric}
use Rattle.std.specs.List.{flat_map, list_all, list_any, range_with_len}
use Rattle.krb_wire.specs.declared.format.Order.{Order}
use Rattle.krb_wire.specs.declared.format.Order.TheVariants.{Big, Little}
use Rattle.krb_text.specs.Etype.{etype_name_of}
use Rattle.krb_text.specs.Escape.{is_printable}
use Rattle.krb_findings.specs.Table.{has}
use Rattle.krb_findings.specs.declared.finding.Finding.TheVariants.{Weak, Old, Same}
use Rattle.krb_driver.specs.declared.verdict.Findings.{Findings}
use Rattle.krb_driver.specs.FileNames.{type_of}
use Rattle.krb_driver.specs.Messages.{line_if}

-- ---- the name of a file as an operand

-- a shell reads the byte as it is
abbrev pub is_plain : ℕ → Bool
is_plain b = is_ascii_alphanumeric b || list_any (λ plain. plain == b) (codes "_-./:@%+,=")

-- the quote around a name that has other bytes
abbrev pub quote_for : List ℕ → List ℕ
quote_for name = if list_all is_plain name then [] else codes "'"

-- a byte between single quotes: one of these ends the quoted part, and begins the next
abbrev pub quoted_byte : ℕ → List ℕ
quoted_byte b = if b == 39 then codes "'\\''" else b ∷ []

-- the name begins as an option
abbrev pub is_option : List ℕ → Bool
is_option [] = false
is_option (b ∷ bs) = b == 45

-- the folder before a name that would be read as an option or as a type
abbrev pub folder_for : List ℕ → List ℕ
folder_for name = if is_option name || is_some (type_of name) then codes "./" else []

-- a name as an operand, as a shell reads it
abbrev pub operand_text : List ℕ → List ℕ
operand_text name = quote_for name ++ (folder_for name ++ (flat_map quoted_byte name ++ quote_for name))

-- all shells read the byte alike: a printable one other than a backslash
abbrev pub is_alike : ℕ → Bool
is_alike b = is_printable b && not (b == 92)

-- a text was appended to an operand, unless that would have more than 256 bytes
abbrev pub Extends : List ℕ → List ℕ → List ℕ → Option (Unit {0}) → Type 0
Extends old text new None = 256 < length old + length text
Extends old text new (Some done) = new ≡ old ++ text

-- ---- hints

-- an enctype as an operand: its name, or its number if it has none
abbrev pub etype_word : ℕ → List ℕ
etype_word etype = unwrap_or (etype_name_of etype) (decimal etype)

-- the option for an enctype, if it was found
abbrev pub etype_option : List Bool → ℕ → List ℕ
etype_option found etype = if get_or found etype false then codes " -e " ++ etype_word etype else []

-- the flag for big-endian keytabs of version 1, if the check was given it
abbrev pub order_flag : Order → List ℕ
order_flag Big = codes " --v1-big"
order_flag Little = []

-- what the hints of ktremove begin with
abbrev pub remove_head : List ℕ
remove_head = codes "krbfile: to see what would go: krbfile ktremove"

-- the dry run of ktremove, up to its options
abbrev pub remove_command : Order → List ℕ
remove_command order = remove_head ++ (order_flag order ++ codes " -n")

-- the hint for weak enctypes, if that word is explained and each name has other keys
abbrev pub weak_hint : Findings → List ℕ → List ℕ
weak_hint findings operand =
    line_if (has findings.words Weak && not findings.lacks_strong)
    (remove_command findings.v1_order ++ (flat_map (etype_option findings.weak_etypes.found) (range_with_len 0 27) ++ (codes " " ++ (operand ++ codes "\n"))))

-- the hints for a file that is this operand
abbrev pub hints_for : Findings → List ℕ → List ℕ
hints_for findings operand =
    line_if (has findings.words Old) (remove_head ++ (order_flag findings.v1_order ++ (codes " -n -k old --age 86400 " ++ (operand ++ codes "\n"))))
    ++ (weak_hint findings operand
    ++ line_if (has findings.words Same) (codes "krbfile: to have each once: krbfile ktcopy" ++ (order_flag findings.v1_order ++ (codes " " ++ (operand ++ codes " NEW\n")))))

-- a file has hints: all shells read its name alike, which has at most 256 bytes as an operand
abbrev pub has_hints : List ℕ → Bool
has_hints file = list_all is_alike file && nat_le (length (operand_text file)) 256

-- the hints for findings about a file, if it has some
abbrev pub hint_words : List ℕ → Findings → List ℕ
hint_words file findings = if has_hints file then hints_for findings (operand_text file) else []
