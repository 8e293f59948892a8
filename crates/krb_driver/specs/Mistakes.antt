-- What a command line matched, and the messages for one that was not read.
use Rattle.std.specs.Borrow.{Bor}
use Rattle.std.specs.Prelude.{◌≡◌, ℕ, List, [], ◌++◌, Bool, Option, None, Some, option_map, codes, Result, Ok, Err, if◌then◌else◌, length, nat_lt, slice_get}
use Rattle.krb_wire.specs.declared.name_fault.NameFault.{NameFault}
use Rattle.krb_wire.specs.NameOf.{name_fault_phrase}
use Rattle.krb_driver.specs.declared.command_line.mistake.Mistake.{Mistake}
use Rattle.krb_driver.specs.declared.command_line.mistake.Phrase.{Phrase}
use Rattle.krb_driver.specs.declared.command_line.mistake.Phrase.TheVariants as phrase
use Rattle.krb_driver.specs.declared.command_line.mistake.More.{More}
use Rattle.krb_driver.specs.declared.command_line.mistake.More.TheVariants as more
use Rattle.krb_driver.specs.declared.command_line.mistake.WordFault.{WordFault}
use Rattle.krb_driver.specs.declared.command_line.mistake.WordFault.TheVariants as word
use Rattle.krb_driver.specs.Messages.{message, quoted_word, shown_word}
use Rattle.krb_driver.specs.Runs.{words_if}
use Rattle.krb_wire.specs.declared.format.Order.{Order}
use Rattle.krb_wire.specs.declared.format.Order.TheVariants.{Big, Little}

-- the text before each mistake
abbrev pub mistake_head : List ℕ
mistake_head = codes "krbfile: bad command line\nkrbfile: "

-- what is wrong with a command line: texts and its words between them, the first as it is printed or in quotes
pub data MistakeParts : Type 0 where
  Shown : List ℕ → List ℕ → List ℕ → List ℕ → List ℕ → MistakeParts
  Quoted : List ℕ → List ℕ → List ℕ → MistakeParts

abbrev pub parts_of : Phrase → List ℕ → List ℕ → MistakeParts
parts_of (phrase.Shown before between after) word other = Shown before.now word between.now other after.now
parts_of (phrase.Quoted between) word other = Quoted word between.now other

abbrev pub mistake_parts : Mistake → MistakeParts
mistake_parts m = parts_of m.phrase m.word.now m.other.now

-- what is wrong, in words
abbrev pub mistake_line : MistakeParts → List ℕ
mistake_line (Shown before word between other after) = before ++ (shown_word word ++ (between ++ (shown_word other ++ after)))
mistake_line (Quoted word between other) = quoted_word word ++ (between ++ shown_word other)

-- each mistake there is
abbrev pub without_command : MistakeParts
without_command = Shown (codes "no command") [] [] [] []

abbrev pub unknown_command : List ℕ → MistakeParts
unknown_command word = Shown (codes "unknown command ") word [] [] []

abbrev pub unknown_option : List ℕ → MistakeParts
unknown_option word = Shown (codes "unknown option ") word [] [] []

abbrev pub unknown_in_bundle : List ℕ → MistakeParts
unknown_in_bundle letter = Shown (codes "unknown option -") letter [] [] []

abbrev pub missing : List ℕ → MistakeParts
missing operand = Shown (codes "no ") operand [] [] []

abbrev pub left_over : List ℕ → MistakeParts
left_over word = Shown (codes "left over: ") word [] [] []

abbrev pub needs_value : List ℕ → MistakeParts
needs_value option = Shown [] option (codes " needs a value") [] []

abbrev pub twice_given : List ℕ → MistakeParts
twice_given option = Shown [] option (codes " is given twice") [] []

abbrev pub takes_one_file : List ℕ → MistakeParts
takes_one_file option = Shown [] option (codes " takes one FILE") [] []

abbrev pub does_not_go_with : List ℕ → List ℕ → MistakeParts
does_not_go_with option other = Shown [] option (codes " does not go with ") other []

abbrev pub for_keytabs : List ℕ → MistakeParts
for_keytabs option = Shown [] option (codes " is for keytabs; give -k") [] []

abbrev pub goes_with : List ℕ → List ℕ → MistakeParts
goes_with option other = Shown [] option (codes " goes with ") other []

abbrev pub only_with : List ℕ → List ℕ → MistakeParts
only_with option other = Shown [] option (codes " goes with ") other (codes " alone")

abbrev pub only_with_one : List ℕ → List ℕ → MistakeParts
only_with_one option other = Shown [] option (codes " goes with one ") other []

abbrev pub no_version : List ℕ → MistakeParts
no_version word = Quoted word (codes " is no version") []

abbrev pub no_etype : List ℕ → MistakeParts
no_etype word = Quoted word (codes " is no encryption type") []

abbrev pub no_time : List ℕ → MistakeParts
no_time word = Quoted word (codes " is no time (90, 15m, 10h, 7d)") []

abbrev pub no_count : List ℕ → MistakeParts
no_count word = Quoted word (codes " is no count") []

abbrev pub no_finding : List ℕ → MistakeParts
no_finding word = Quoted word (codes " is no finding") []

abbrev pub faulty_name : List ℕ → NameFault → MistakeParts
faulty_name word fault = Quoted word (codes " has ") (name_fault_phrase fault)

abbrev pub nothing_selects : List ℕ → MistakeParts
nothing_selects options = Shown (codes "nothing selects; give ") options [] [] []

abbrev pub not_text : MistakeParts
not_text = Shown (codes "an argument is not UTF-8") [] [] [] []

abbrev pub variable_not_text : List ℕ → MistakeParts
variable_not_text variable = Shown [] variable (codes " is not UTF-8") [] []

-- the reference to the help: krbfile's, or a command's
abbrev pub help_of : Option (List ℕ) → List ℕ
help_of None = codes "; see krbfile --help\n"
help_of (Some command) = codes "; see krbfile " ++ (command ++ codes " --help\n")

-- what follows the line of a mistake: a line with what was meant, or a help text
abbrev pub more_words : More → List ℕ
more_words more.Nothing = []
more_words (more.MeantCommand name) = codes "krbfile: did you mean " ++ (name.now ++ codes "?\n")
more_words (more.MeantOption name) = codes "krbfile: did you mean --" ++ (name.now ++ codes "?\n")
more_words (more.Help text) = text.now

-- ---- the command line

-- the words of --explain for a mistake in a command line, as krbfile(1) describes them
unfoldable pub mistake_words : Mistake → Option (List ℕ) → More → List ℕ
mistake_words what command more = codes "krbfile: " ++ (mistake_line (mistake_parts what) ++ (help_of command ++ more_words more))

-- the message for words that were not read, with or without the words that explain it
abbrev pub word_text : Bool → WordFault → List ℕ
word_text explains word.NoMemory = message (codes "out of memory")
word_text explains (word.BadLine line) = message (codes "bad command line") ++ words_if explains (mistake_words line.mistake (option_map (λ command. command.now) line.command) line.more)

-- the number of a word fault
abbrev pub word_number : WordFault → ℕ
word_number (word.BadLine line) = 1
word_number word.NoMemory = 2

-- the exit status of a run whose words were not read
abbrev pub word_status : WordFault → ℕ
word_status (word.BadLine line) = 2
word_status word.NoMemory = 4

-- the same fault, for words of that command
abbrev pub in_command : Bor (List ℕ) → WordFault → WordFault
in_command command (word.BadLine line) = word.BadLine (record line { command = Some command })
in_command command word.NoMemory = word.NoMemory

-- a bad line has the mistake that was found; memory runs out only if none was
abbrev pub IsOf : Option MistakeParts → WordFault → Type 0
IsOf found (word.BadLine line) = found ≡ Some (mistake_parts line.mistake)
IsOf found word.NoMemory = found ≡ None

-- words that are read have no mistake, and `Writes` holds of what they give; else the fault is as in `IsOf`
abbrev pub Reads : {X : Type 0} → Option MistakeParts → (X → Type 0) → Result X WordFault → Type 0
Reads found Writes (Ok x) = (found ≡ None) × Writes x
Reads found Writes (Err fault) = IsOf found fault

-- words are refused for a mistake, if they have one
abbrev pub Refuses : Option MistakeParts → Result (Unit {0}) Mistake → Type 0
Refuses found (Ok done) = found ≡ None
Refuses found (Err mistake) = found ≡ Some (mistake_parts mistake)

-- like `IsOf`, and a bad line names that command
abbrev pub IsRefusal : List ℕ → Option MistakeParts → WordFault → Type 0
IsRefusal command found (word.BadLine line) = (found ≡ Some (mistake_parts line.mistake)) × (option_map (λ name. name.now) line.command ≡ Some command)
IsRefusal command found word.NoMemory = found ≡ None

-- ---- what a command line matched, and what the words that commands share mean

-- the flags, operands and option values of a command line, by the names of its command's words, and the long names on it
pub record Matched : Type 0 where
  pub flag : List ℕ → Bool
  pub operand : List ℕ → List ℕ
  pub values : List ℕ → List (List ℕ)
  pub is_long : List ℕ → Bool

-- an option as it was typed: by its long name if that is on the line, and otherwise by its letter
abbrev pub typed : Matched → List ℕ → List ℕ → List ℕ
typed words letter name = if words.is_long name then name else letter

-- the byte order of version 1 keytabs
abbrev pub v1_order : Matched → Order
v1_order words = if words.flag (codes "v1-big") then Big else Little

-- the first value of an option or an operand
abbrev pub first_value : Matched → List ℕ → Option (List ℕ)
first_value words name = slice_get (words.values name) 0

-- an option is given twice
abbrev pub twice : Matched → List ℕ → List ℕ → List ℕ → Option MistakeParts
twice words name letter long = if nat_lt 1 (length (words.values name)) then Some (twice_given (typed words letter long)) else None
