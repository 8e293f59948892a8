-- The words of a line, the command that they ask for, and their faults.
use Rattle.std.specs.Prelude.{ℕ, zero, suc, List, [], ◌∷◌, ◌++◌, filter, reverse, Bool, true, false, ◌||◌, ◌==◌, if◌then◌else◌, not, ◌&&◌, nat_lt, nat_le, codes, Option, None, Some, is_none, ok_or, Result, Ok, Err}
use Rattle.std.specs.List.{onto_first, list_any}
use Rattle.std.specs.Str.{bytes_eq, is_utf8}
use Rattle.krb_wire.specs.Names.{name_text}
use Rattle.krb_wire.specs.Spelling.{Parts}
use Rattle.krb_wire.specs.Reading.{◌>>=◌}
use Rattle.krb_keytab_text.specs.declared.columns.KtColumns.{KtColumns}
use Rattle.krb_text.specs.declared.line_fault.LineFault.TheVariants.{UnknownWord, WordCount, BadSlot, BadFileName}
use Rattle.krb_ktutil.specs.declared.ktutil.verb.Verb.{Verb}
use Rattle.krb_ktutil.specs.declared.ktutil.verb.Verb.TheVariants as verb
use Rattle.krb_text.specs.Word.{number_word, etype_word, name_word}
use Rattle.krb_driver.specs.RunErrors.{LineFault}
pub use Rattle.krb_driver.specs.declared.error.RunError.{RunError}
use Rattle.krb_driver.specs.declared.error.RunError.TheVariants.{AsksForHelp, FaultyLine, FromPassword}

abbrev pub is_blank : ℕ → Bool
is_blank b = b == 32 || b == 9

-- the parts of ktutil's line between blanks that are not quoted; a backslash quotes the byte after it
abbrev pub parts_from : List ℕ → Bool → List (List ℕ)
parts_from [] quoted = [] ∷ []
parts_from (b ∷ bs) true = onto_first b (parts_from bs false)
parts_from (b ∷ bs) false = if is_blank b then [] ∷ parts_from bs false else onto_first b (parts_from bs (b == 92))

abbrev pub is_word : List ℕ → Bool
is_word [] = false
is_word (b ∷ bs) = true

-- the words of ktutil's line: the parts that are not empty
abbrev pub words : List ℕ → List (List ℕ)
words line = filter is_word (parts_from line false)

-- a text without its leading blanks
abbrev pub unindented : List ℕ → List ℕ
unindented [] = []
unindented (b ∷ bs) = if is_blank b then unindented bs else b ∷ bs

-- a text without the blanks at its ends
abbrev pub trimmed : List ℕ → List ℕ
trimmed text = reverse (unindented (reverse (unindented text)))

-- the number of bytes before the first blank that is not quoted, by whether the first byte is: for a private contract
abbrev pub size_from : List ℕ → Bool → ℕ
size_from [] quoted = zero
size_from (b ∷ bs) true = suc (size_from bs false)
size_from (b ∷ bs) false = if is_blank b then zero else suc (size_from bs (b == 92))

-- the number of bytes before the first blank that is not quoted
abbrev pub word_size : List ℕ → ℕ
word_size text = size_from text false

-- ---- the command of a line of ktutil

-- an entry whose key and time are still to come
pub record Awaited : Type 0 where
  pub principal : Parts
  pub version : ℕ
  pub enctype : ℕ

abbrev pub key_prompt : Parts → List ℕ
key_prompt principal = codes "Key for " ++ (name_text principal ++ codes " (hex): ")

-- the command of a line
pub data Command : Type 0 where
  Skip : Command
  ListSlots : KtColumns → Command
  ReadFile : List ℕ → Command
  WriteFile : List ℕ → Command
  AwaitKey : Awaited → Command
  DeleteSlot : ℕ → Command
  ClearList : Command
  Quit : Command

-- a word is a command's long or short name
abbrev pub is_either : List ℕ → List ℕ → List ℕ → Bool
is_either word long short = bytes_eq word long || bytes_eq word short

-- the command of ktutil that a word names
abbrev pub verb_of : List ℕ → Option Verb
verb_of word =
    if is_either word (codes "list") (codes "l") then Some verb.List
    else (if is_either word (codes "read_kt") (codes "rkt") then Some verb.Read
    else (if is_either word (codes "write_kt") (codes "wkt") then Some verb.Write
    else (if is_either word (codes "add_entry") (codes "addent") then Some verb.Add
    else (if is_either word (codes "delete_entry") (codes "delent") then Some verb.Delete
    else (if is_either word (codes "clear_list") (codes "clear") then Some verb.Clear
    else (if is_either word (codes "quit") (codes "q") || bytes_eq word (codes "exit") then Some verb.Quit
    else None))))))

-- ---- the words after the command

-- what comes of what was read, or the fault if nothing was
abbrev pub after : {X Y : Type 0} → (X → Result Y LineFault) → Result X LineFault → Result Y LineFault
after then_ (Ok x) = then_ x
after then_ (Err fault) = Err fault

-- a command has no words after it
abbrev pub are_none : List (List ℕ) → Bool
are_none [] = true
are_none (word ∷ others) = false

-- the only word after a command
abbrev pub only : List (List ℕ) → Result (List ℕ) LineFault
only [] = Err WordCount
only (word ∷ others) = if are_none others then Ok word else Err WordCount

-- no columns but kvnos and names
abbrev pub plain_columns : KtColumns
plain_columns = record { times = false; etypes = false; keys = false }

-- the columns of a list with the one that an option adds, if it is new
abbrev pub with_column : KtColumns → List ℕ → Option KtColumns
with_column columns option =
    if bytes_eq option (codes "-t") && not columns.times then Some (record columns { times = true })
    else (if bytes_eq option (codes "-k") && not columns.keys then Some (record columns { keys = true })
    else (if bytes_eq option (codes "-e") && not columns.etypes then Some (record columns { etypes = true })
    else None))

-- the columns of a list with those that options add, each option at most once
abbrev pub columns_in : KtColumns → List (List ℕ) → Option KtColumns
columns_in columns [] = Some columns
columns_in columns (option ∷ options) = with_column columns option >>= λ more. columns_in more options

abbrev pub listing : List (List ℕ) → Result Command LineFault
listing words = after (λ columns. Ok (ListSlots columns)) (ok_or (columns_in plain_columns words) WordCount)

-- the name of a file in a word, which must be UTF-8
abbrev pub file_word : List ℕ → Result (List ℕ) LineFault
file_word word = if is_utf8 word then Ok word else Err BadFileName

-- a command on the file that its only word names
abbrev pub on_file : (List ℕ → Command) → List (List ℕ) → Result Command LineFault
on_file command words = after (λ name. Ok (command name)) (after file_word (only words))

-- a slot, counted from 1, of a list with that many
abbrev pub slot_of : ℕ → ℕ → Result ℕ LineFault
slot_of count slot = if nat_lt 0 slot && nat_le slot count then Ok slot else Err BadSlot

-- a command that has no words after it
abbrev pub alone : Command → List (List ℕ) → Result Command LineFault
alone command words = if are_none words then Ok command else Err WordCount

-- the options of an addition: whether `-key` is given, and the words after `-p`, `-k` and `-e`
pub record AddOptions : Type 0 where
  pub key : Bool
  pub name : Option (List ℕ)
  pub version : Option (List ℕ)
  pub enctype : Option (List ℕ)

abbrev pub no_options : AddOptions
no_options = record { key = false; name = None; version = None; enctype = None }

-- the option is `-key`, for the first time
abbrev pub is_new_key : AddOptions → List ℕ → Bool
is_new_key given option = bytes_eq option (codes "-key") && not given.key

-- the options of an addition with one more and its value, if it is new
abbrev pub with_option : AddOptions → List ℕ → List ℕ → Option AddOptions
with_option given option word =
    if bytes_eq option (codes "-p") && is_none given.name then Some (record given { name = Some word })
    else (if bytes_eq option (codes "-k") && is_none given.version then Some (record given { version = Some word })
    else (if bytes_eq option (codes "-e") && is_none given.enctype then Some (record given { enctype = Some word })
    else None))

-- the options of an addition with those in more words, each at most once
abbrev pub options_in : AddOptions → List (List ℕ) → Option AddOptions
options_in given [] = Some given
options_in given (option ∷ []) =
    if is_new_key given option then Some (record given { key = true }) else None
options_in given (option ∷ word ∷ others) =
    if is_new_key given option then options_in (record given { key = true }) (word ∷ others)
    else (with_option given option word >>= λ more. options_in more others)

-- the entry of an addition without its key, if all options are given; of several faults the kvno's comes first, then the enctype's, then the name's
abbrev pub awaited_by : Bool → Option (List ℕ) → Option (List ℕ) → Option (List ℕ) → Result Awaited LineFault
awaited_by true (Some name) (Some version) (Some enctype) =
    after (λ version.
    after (λ enctype.
    after (λ principal. Ok (record { principal = principal; version = version; enctype = enctype }))
    (name_word name)) (etype_word enctype)) (number_word version)
awaited_by key name version enctype = Err WordCount

-- the entry of words as options, each given once, in any order
abbrev pub awaited_of : List (List ℕ) → Result Awaited LineFault
awaited_of words = after (λ given. awaited_by given.key given.name given.version given.enctype) (ok_or (options_in no_options words) WordCount)

-- the addition of an entry whose key is still to come
abbrev pub addition : List (List ℕ) → Result Command LineFault
addition words = after (λ awaited. Ok (AwaitKey awaited)) (awaited_of words)

abbrev pub has_password : List (List ℕ) → Bool
has_password words = list_any (λ word. bytes_eq word (codes "-password")) words

-- ---- a line

-- the command of ktutil with its words, over a list of `count` entries
abbrev pub command_by : ℕ → Option Verb → List (List ℕ) → Result Command LineFault
command_by count None words = Err UnknownWord
command_by count (Some verb.List) words = listing words
command_by count (Some verb.Read) words = on_file ReadFile words
command_by count (Some verb.Write) words = on_file WriteFile words
command_by count (Some verb.Add) words = addition words
command_by count (Some verb.Delete) words = after (λ slot. Ok (DeleteSlot slot)) (after (slot_of count) (after number_word (only words)))
command_by count (Some verb.Clear) words = alone ClearList words
command_by count (Some verb.Quit) words = alone Quit words

abbrev pub is_addition : Option Verb → Bool
is_addition (Some verb.Add) = true
is_addition verb = false

-- the words of a line ask for an addition with a key from a password
abbrev pub asks_for_password : List (List ℕ) → Bool
asks_for_password [] = false
asks_for_password (command ∷ options) = is_addition (verb_of command) && has_password options

-- the command in the words of ktutil's line, over a list of `count` entries; without words it is `Skip`
abbrev pub command_in : ℕ → List (List ℕ) → Result Command LineFault
command_in count [] = Ok Skip
command_in count (word ∷ words) = command_by count (verb_of word) words

-- the command of a line, over `count` slots
abbrev pub command_of : List ℕ → ℕ → Result Command LineFault
command_of line count = command_in count (words line)

-- ---- the errors for lines that have a fault

-- the words of a line ask for help, or for the commands
abbrev pub asks_for_help : List (List ℕ) → Bool
asks_for_help [] = false
asks_for_help (command ∷ others) = is_either command (codes "?") (codes "help") || is_either command (codes "lr") (codes "list_requests")

-- the error for a line of ktutil with a fault
abbrev pub fault_error : ℕ → List (List ℕ) → LineFault → RunError
fault_error number words WordCount = if asks_for_password words then FromPassword number else FaultyLine number WordCount
fault_error number words UnknownWord = if asks_for_help words then AsksForHelp number else FaultyLine number UnknownWord
fault_error number words fault = FaultyLine number fault
