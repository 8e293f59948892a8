-- The names of files, and their types.
use Rattle.std.specs.Prelude.{◌≡◌, ℕ, ◌+◌, List, [], ◌∷◌, length, take, codes, Bool, not, ◌&&◌, ◌||◌, ◌==◌, nat_le, nat_lt, if◌then◌else◌, Option, None, Some, is_none, is_some, option_and_then, unwrap_or}
use Rattle.std.specs.List.{flat_map, list_any, position_from}
use Rattle.std.specs.Option.{option_or}
use Rattle.krb_driver.specs.declared.file_name.FileName.{FileName}
use Rattle.krb_driver.specs.declared.file_name.NameSource.{NameSource}
use Rattle.krb_driver.specs.declared.verdict.FileKind.{FileKind}
use Rattle.krb_driver.specs.declared.verdict.FileKind.TheVariants.{Keytab, Cache, Either}

-- a byte is not an ASCII letter
abbrev pub is_no_letter : ℕ → Bool
is_no_letter b = not ((nat_le 65 b && nat_le b 90) || (nat_le 97 b && nat_le b 122))

-- the text before a colon is a type of a file's name: two or more letters
abbrev pub is_type : List ℕ → Bool
is_type head = nat_lt 1 (length head) && not (list_any is_no_letter head)

-- the type that a word begins with, with its colon, as `FILE:`
abbrev pub type_of : List ℕ → Option (List ℕ)
type_of word = option_and_then (λ at. if is_type (take at word) then Some (take (at + 1) word) else None) (position_from (λ b. b == 58) 0 word)

-- a word begins with a type
abbrev pub has_type : List ℕ → Bool
has_type word = is_some (type_of word)

-- a word without a prefix, if it has the prefix
abbrev pub stripped : List ℕ → List ℕ → Option (List ℕ)
stripped [] word = Some word
stripped (p ∷ ps) [] = None
stripped (p ∷ ps) (b ∷ bs) = if b == p then stripped ps bs else None

-- a word without the type that only keytabs, or only caches, have: `WRFILE:`, or `DIR::` for one cache of a collection
abbrev pub without_own : FileKind → List ℕ → Option (List ℕ)
without_own Keytab word = stripped (codes "WRFILE:") word
without_own Cache word = stripped (codes "DIR::") word
without_own Either word = option_or (stripped (codes "WRFILE:") word) (stripped (codes "DIR::") word)

-- a word without the type of a file that is read, if it has one
abbrev pub untyped : FileKind → List ℕ → Option (List ℕ)
untyped kind word = option_or (stripped (codes "FILE:") word) (without_own kind word)

-- the name of the file that a word names
abbrev pub bare_name : FileKind → List ℕ → List ℕ
bare_name kind word = unwrap_or (untyped kind word) word

-- a word begins with a type that is not read, as `KCM:`
abbrev pub is_other_type : FileKind → List ℕ → Bool
is_other_type kind word = is_none (untyped kind word) && has_type word

-- a file name is the one that a word of a command line gives
pub record IsNamed (kind : FileKind) (word : List ℕ) (source : NameSource) (file : FileName) : Type 0 where
  pub kind_is : file.kind ≡ kind
  pub name : file.name.now ≡ bare_name kind word
  pub other : file.is_other_type ≡ is_other_type kind word
  pub from : file.source ≡ source

-- a byte of a file's name as messages print it: a newline is `\x0a`
abbrev pub name_byte : ℕ → List ℕ
name_byte b = if b == 10 then codes "\\x0a" else b ∷ []

-- a file's name as messages and the beginnings of lines have it, on one line
abbrev pub shown_name : List ℕ → List ℕ
shown_name name = flat_map name_byte name
