-- Lines for the error output, and what is written for their pieces.
use Rattle.std.specs.Prelude.{ℕ, List, [], ◌++◌, codes, decimal, Bool, if◌then◌else◌, Option, None, Some, ◌+◌, ◌==◌, ◌∷◌, length, take, true, ◌&&◌, nat_le, nat_lt}
use Rattle.krb_driver.specs.FileNames.{shown_name, name_byte}
use Rattle.std.specs.Char.{is_ascii_hexdigit}
use Rattle.std.specs.List.{flat_map, list_all}
use Rattle.hex.specs.Hex.{encode_lower}
use Rattle.krb_text.specs.Escape.{is_printable, escaped, escaped_text}
use Rattle.krb_driver.specs.FirstWords.{word_text}
use Rattle.krb_driver.specs.declared.reporting.writing.Form.{Form}
use Rattle.krb_driver.specs.declared.reporting.writing.Form.TheVariants as form
use Rattle.krb_driver.specs.declared.reporting.piece.MessagePiece.{MessagePiece}
use Rattle.krb_driver.specs.declared.reporting.piece.MessagePiece.TheVariants.{Text, Name, Operand, Number, Word, Quoted, Escaped}

-- a message of the program
abbrev pub message : List ℕ → List ℕ
message what = codes "krbfile: " ++ (what ++ codes "\n")

-- a message about a file
abbrev pub file_message : List ℕ → List ℕ → List ℕ
file_message file what = codes "krbfile: " ++ (shown_name file ++ (codes ": " ++ (what ++ codes "\n")))

-- a number between two texts
abbrev pub numbered : List ℕ → ℕ → List ℕ → List ℕ
numbered before number after = before ++ (decimal number ++ after)

-- a number between a text and its phrase
abbrev pub numbered_line : List ℕ → ℕ → List ℕ → List ℕ
numbered_line head number phrase = head ++ (decimal number ++ (codes ": " ++ (phrase ++ codes "\n")))

-- words of --explain as a line, with the number of ktutil's line if there is one
abbrev pub words_line : Option ℕ → List ℕ → List ℕ
words_line None words = codes "krbfile: " ++ words
words_line (Some line) words = codes "krbfile: line " ++ (decimal line ++ (codes ": " ++ words))

-- a phrase of --explain as a line
abbrev pub phrase_line : Option ℕ → List ℕ → List ℕ
phrase_line line phrase = words_line line (phrase ++ codes "\n")

-- a line if its word is explained, else nothing
abbrev pub line_if : Bool → List ℕ → List ℕ
line_if is_explained line = if is_explained then line else []

-- ---- what is written for a piece of a message

-- a printable byte as it is, and any other as `\x` and its two hexadecimal digits
abbrev pub shown_byte : ℕ → List ℕ
shown_byte b = if is_printable b then b ∷ [] else codes "\\x" ++ encode_lower (b ∷ [])

-- how bytes are printed: of the name of a file, of a word of the command line, and of a word of a script
abbrev pub byte_text : Form → ℕ → List ℕ
byte_text form.Name = name_byte
byte_text form.Word = shown_byte
byte_text form.Script = escaped

-- the bytes begin with sixteen hexadecimal digits, so they may be a key
abbrev pub may_be_key : List ℕ → Bool
may_be_key word = nat_le 16 (length word) && list_all is_ascii_hexdigit (take 16 word)

-- how many bytes come before what may be a key, which can begin after a `=`, or here if `can_begin`
abbrev pub key_from : Bool → List ℕ → ℕ
key_from can_begin [] = 0
key_from can_begin (b ∷ bs) = if can_begin && may_be_key (b ∷ bs) then 0 else 1 + key_from (b == 61) bs

-- where in a word what may be a key begins: at its start, or after a `=`; or else its length
abbrev pub key_start : List ℕ → ℕ
key_start word = key_from true word

abbrev pub has_key : List ℕ → Bool
has_key word = nat_lt (key_start word) (length word)

-- what is printed in place of what may be a key
abbrev pub hidden_word : List ℕ
hidden_word = codes "a word of hexadecimal digits"

-- a word of the command line as it is printed: up to what may be a key
abbrev pub shown_word : List ℕ → List ℕ
shown_word word = flat_map shown_byte (take (key_start word) word) ++ (if has_key word then hidden_word else [])

-- a word of the command line in quotes, unless it has what may be a key
abbrev pub quoted_word : List ℕ → List ℕ
quoted_word word = if has_key word then hidden_word else codes "\"" ++ (flat_map shown_byte word ++ codes "\"")

-- what is written for a piece
abbrev pub piece_text : MessagePiece → List ℕ
piece_text (Text text) = text.now
piece_text (Name name) = shown_name name.now
piece_text (Operand operand) = operand.now
piece_text (Number n) = decimal n
piece_text (Word word) = shown_word word.now
piece_text (Quoted word) = quoted_word word.now
piece_text (Escaped word) = escaped_text (word_text word)

-- pieces one after the other
abbrev pub pieces_text : List MessagePiece → List ℕ
pieces_text pieces = flat_map piece_text pieces
