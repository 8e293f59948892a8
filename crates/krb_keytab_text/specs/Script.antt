-- Scripts: text whose lines are events, or other commands.
use Rattle.std.specs.Prelude.{◌≡◌, ℕ, ◌==◌, List, [], ◌∷◌, codes, Bool, false, not, if◌then◌else◌, filter, bytes_eq, Option, None, Some, ok_or, Result, Ok, Err, IsOk}
use Rattle.std.specs.List.{filter_map, enumerate_from, join_with_byte}
use Rattle.std.specs.Result.{result_ok}
use Rattle.krb_walk.specs.declared.event.Event.{Event}
use Rattle.krb_walk.specs.declared.event.Event.TheVariants as event
use Rattle.krb_keytab.specs.Entry.{EntryParts}
use Rattle.krb_text.specs.declared.line_fault.LineFault.{LineFault}
use Rattle.krb_text.specs.declared.line_fault.LineFault.TheVariants.{UnknownWord, WordCount}
use Rattle.krb_keytab_text.specs.declared.script.command.Command.{Command}
use Rattle.krb_keytab_text.specs.declared.script.command.Command.TheVariants as command
use Rattle.krb_text.specs.declared.line_fault.ScriptRefusal.{ScriptRefusal}
use Rattle.krb_text.specs.declared.line_fault.ScriptRefusal.TheVariants.{Fault, NoMemory}
use Rattle.krb_text.specs.Word.{pieces, number_word, etype_word, key_word, name_word}

infixl 10 ◌>>=◌
-- the logic's `?`: the second step, if the first has a value
abbrev pub ◌>>=◌ : {A B : Type 0} → Result A LineFault → (A → Result B LineFault) → Result B LineFault
Ok x >>= f = f x
Err fault >>= f = Err fault

-- ---- a line

-- the command that a word names, of those that scripts of keytabs and of caches share
abbrev pub command_named : List ℕ → Option Command
command_named word =
    if bytes_eq word (codes "start") then Some command.Start
    else (if bytes_eq word (codes "resume") then Some command.Resume
    else (if bytes_eq word (codes "step") then Some command.Step
    else (if bytes_eq word (codes "cut") then Some command.Cut
    else (if bytes_eq word (codes "rewrite") then Some command.Rewrite
    else None))))

-- a command without words after it
abbrev pub no_words : List (List ℕ) → Result (Unit {0}) LineFault
no_words [] = Ok tt
no_words (word ∷ others) = Err WordCount

-- the number that a command's only word spells
abbrev pub lone_number : List (List ℕ) → Result ℕ LineFault
lone_number [] = Err WordCount
lone_number (word ∷ []) = number_word word
lone_number (word ∷ other ∷ others) = Err WordCount

-- what is made of a value that was read, or the fault of the line
abbrev pub made : {T U : Type 0} → (T → U) → Result T LineFault → Result U LineFault
made make (Ok x) = Ok (make x)
made make (Err fault) = Err fault

-- the event that a command and its words mean, over any store
abbrev pub event_by : {I : Type 0} → Command → List (List ℕ) → Result (Event I) LineFault
event_by command.Start words = made (λ done. event.Start) (no_words words)
event_by command.Resume words = made event.Resume (lone_number words)
event_by command.Step words = made event.Step (lone_number words)
event_by command.Cut words = made event.Cut (lone_number words)
event_by command.Rewrite words = made (λ done. event.Rewrite) (no_words words)

-- the event that a line of a script means, of those over any store
abbrev pub common_event : {I : Type 0} → List ℕ → List (List ℕ) → Result (Event I) LineFault
common_event word words = ok_or (command_named word) UnknownWord >>= λ c. event_by c words

-- ---- a line that is an event of a keytab

-- the words after `add`: kvno, enctype, time, key, and the name, which is the rest of the line
pub record Addition : Type 0 where
  pub kvno : List ℕ
  pub etype : List ℕ
  pub time : List ℕ
  pub key : List ℕ
  pub name : List ℕ

-- the words after `add`, of which there must be five or more
abbrev pub addition_of : List (List ℕ) → Option Addition
addition_of [] = None
addition_of (kvno ∷ []) = None
addition_of (kvno ∷ etype ∷ []) = None
addition_of (kvno ∷ etype ∷ time ∷ []) = None
addition_of (kvno ∷ etype ∷ time ∷ key ∷ []) = None
addition_of (kvno ∷ etype ∷ time ∷ key ∷ name ∷ more) = Some (record { kvno = kvno; etype = etype; time = time; key = key; name = join_with_byte 32 (name ∷ more) })

-- the hexadecimal digits of a key, where `-` is a key of no bytes
abbrev pub digits_of : List ℕ → List ℕ
digits_of word = if bytes_eq word (codes "-") then [] else word

-- the entry that the words after `add` spell, or the fault of the leftmost bad word
abbrev pub entry_of : Addition → Result EntryParts LineFault
entry_of a = do
  version ← number_word a.kvno
  enctype ← etype_word a.etype
  timestamp ← number_word a.time
  key ← key_word enctype (digits_of a.key)
  principal ← name_word a.name
  Ok (record { principal = principal; timestamp = timestamp; version = version; enctype = enctype; key = key })

-- the entry that the words after `add` spell, or their fault, as too few words are one
abbrev pub entry_in : List (List ℕ) → Result EntryParts LineFault
entry_in words = ok_or (addition_of words) WordCount >>= entry_of

-- the event that the words of a line mean, or the line's first fault
abbrev pub event_of : List (List ℕ) → Result (Event EntryParts) LineFault
event_of [] = Err UnknownWord
event_of (word ∷ words) = if bytes_eq word (codes "add") then made event.Put (entry_in words) else common_event word words

-- the event that a line of a script means, or the line's first fault; one space separates words
abbrev pub event_in : List ℕ → Result (Event EntryParts) LineFault
event_in line = event_of (pieces 32 line)

-- ---- a script

-- the line is a command: it is neither empty nor a comment, which begins with `#`
abbrev pub is_command : List ℕ → Bool
is_command [] = false
is_command (b ∷ others) = not (b == 35)

-- the lines that are commands, with their numbers, if the first line has number n
abbrev pub commands_from : ℕ → List (List ℕ) → List (ℕ × List ℕ)
commands_from n lines = filter (λ line. is_command line.1) (enumerate_from n lines)

-- the first fault of a script: the number of its line, from 1 on, and its kind
pub record ScriptFault : Type 0 where
  pub line : ℕ
  pub kind : LineFault

-- the fault of the line of number n, if the line has one
abbrev pub fault_at : {L : Type 0} → ℕ → Result L LineFault → Option ScriptFault
fault_at n (Ok x) = None
fault_at n (Err kind) = Some (record { line = n; kind = kind })

-- the faults of lines, in order
abbrev pub faults_of : {L : Type 0} → (List ℕ → Result L LineFault) → List (ℕ × List ℕ) → List ScriptFault
faults_of line_in lines = filter_map (λ line. fault_at line.0 (line_in line.1)) lines

-- what the lines without a fault are read as
abbrev pub commands_read : {L : Type 0} → (List ℕ → Result L LineFault) → List (ℕ × List ℕ) → List L
commands_read line_in lines = filter_map (λ line. result_ok (line_in line.1)) lines

-- what all lines of a script are read as, unless a line has a fault: then the first one
abbrev pub read_or_fault : {L : Type 0} → List ScriptFault → List L → Result (List L) ScriptFault
read_or_fault [] read_lines = Ok read_lines
read_or_fault (fault ∷ others) read_lines = Err fault

-- what lines of a script are read as, in order, or the first fault
abbrev pub script_of : {L : Type 0} → (List ℕ → Result L LineFault) → List (ℕ × List ℕ) → Result (List L) ScriptFault
script_of line_in lines = read_or_fault (faults_of line_in lines) (commands_read line_in lines)

-- what a script's lines are read as, in order, or the first fault; lines are numbered from 1
abbrev pub script_by : {L : Type 0} → (List ℕ → Result L LineFault) → List ℕ → Result (List L) ScriptFault
script_by line_in text = script_of line_in (commands_from 1 (pieces 10 text))

-- a script is refused for its first faulty line, or because an allocation failed
abbrev pub RefusesScript : {L : Type 0} → Result (List L) ScriptFault → ScriptRefusal → Type 0
RefusesScript given (Fault line kind) = given ≡ Err (record { line = line; kind = kind })
RefusesScript given NoMemory = Unit {0}

-- it may run out of memory only if there is a command and the first one has no fault
abbrev pub TakesMemory : {L : Type 0} → (List ℕ → Result L LineFault) → List (ℕ × List ℕ) → Type 0
TakesMemory line_in [] = ⊥
TakesMemory line_in (line ∷ others) = IsOk (line_in line.1)
