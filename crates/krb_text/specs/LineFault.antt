-- Faults of lines that are read.
use Rattle.std.specs.Prelude.{◌≡◌, ℕ, List, ◌++◌, codes, decimal, Result, Ok, Err, IsOk}
use Rattle.krb_text.specs.declared.line_fault.LineFault.{LineFault}
use Rattle.krb_text.specs.declared.line_fault.LineFault.TheVariants.{UnknownWord, WordCount, BadNumber, BadEtype, BadKey, BadName, BadSlot, BadFileName}
use Rattle.krb_text.specs.declared.line_fault.LineRefusal.{LineRefusal}
use Rattle.krb_text.specs.declared.line_fault.LineRefusal.TheVariants.{Fault, NoMemory}
use Rattle.krb_text.specs.declared.line_fault.ScriptRefusal.{ScriptRefusal}
use Rattle.krb_text.specs.declared.line_fault.ScriptRefusal.TheVariants as script

-- the number that is printed for a fault of a line
abbrev pub line_fault_number : LineFault → ℕ
line_fault_number UnknownWord = 1
line_fault_number WordCount = 2
line_fault_number BadNumber = 3
line_fault_number BadEtype = 4
line_fault_number BadKey = 5
line_fault_number BadName = 6
line_fault_number BadSlot = 7
line_fault_number BadFileName = 8

-- the message for a line of a script
abbrev pub line_phrase : LineFault → List ℕ
line_phrase UnknownWord = codes "unknown first word"
line_phrase WordCount = codes "words are missing or left over"
line_phrase BadNumber = codes "a number is not from 0 to 4294967295"
line_phrase BadEtype = codes "unknown encryption type"
line_phrase BadKey = codes "the key is not hexadecimal, or not as long as its type's"
line_phrase BadName = codes "not a principal name with its realm"
line_phrase BadSlot = codes "the list has no such slot"
line_phrase BadFileName = codes "the file's name is not UTF-8"

-- the message for a line that ktutil reads
abbrev pub ktutil_phrase : LineFault → List ℕ
ktutil_phrase UnknownWord = codes "unknown command"
ktutil_phrase WordCount = codes "words are wrong, missing, repeated or left over"
ktutil_phrase BadKey = codes "the key is not hexadecimal, not as long as its type's, or empty"
ktutil_phrase fault = line_phrase fault

-- the message for a line that could not be read
abbrev pub refusal_phrase : LineRefusal → List ℕ
refusal_phrase (Fault fault) = line_phrase fault
refusal_phrase NoMemory = codes "out of memory"

-- the message for a script that is refused
abbrev pub refusal_text : ScriptRefusal → List ℕ
refusal_text (script.Fault line kind) = codes "line " ++ decimal line ++ codes ": " ++ line_phrase kind
refusal_text script.NoMemory = codes "out of memory"

-- reading gives this value, seen by `view`, or this fault; it may run out of memory only if there is no fault
abbrev pub Reads : {T V : Type 0} → (T → V) → Result V LineFault → Result T LineRefusal → Type 0
Reads view given (Ok x) = given ≡ Ok (view x)
Reads view given (Err (Fault fault)) = given ≡ Err fault
Reads view given (Err NoMemory) = IsOk given
