-- How a run ends: its verdict, or the error that ends it, its message and its exit status.
use Rattle.std.specs.Prelude.{ℕ, List, [], if◌then◌else◌, Option, None, Some, max, Bool, true, false, Result, Ok, Err}
pub use Rattle.krb_walk.specs.declared.fault.Fault.{Fault}
pub use Rattle.krb_walk.specs.declared.refusal.Code.{Code}
use Rattle.krb_walk.specs.declared.refusal.Code.TheVariants.{NotFound}
pub use Rattle.krb_driver.specs.declared.verdict.Verdict.{Verdict}
use Rattle.krb_driver.specs.declared.verdict.Verdict.TheVariants.{Well, HiddenFrom, NoEntry, Without, Listed, Replied, Found, Judged, NothingToRemove}
use Rattle.krb_driver.specs.Messages.{file_message, message, phrase_line}
use Rattle.krb_driver.specs.ErrorRows.{Refused, Says, error_row, said_text}
use Rattle.krb_driver.specs.declared.reporting.row.Subject.{Subject}
use Rattle.krb_driver.specs.declared.reporting.row.Subject.TheVariants.{Run, File, Line}
pub use Rattle.krb_files.specs.declared.aftermath.Aftermath.{Aftermath}
use Rattle.krb_files.specs.declared.aftermath.Aftermath.TheVariants.{LostChange, Mixed}
pub use Rattle.krb_files.specs.declared.files.LoadFault.{LoadFault}
use Rattle.krb_files.specs.declared.files.LoadFault.TheVariants as load
pub use Rattle.krb_files.specs.declared.files.SaveFault.{SaveFault}
use Rattle.krb_files.specs.declared.files.SaveFault.TheVariants as save
use Rattle.krb_files.specs.declared.output.OutFault.{OutFault}
use Rattle.krb_files.specs.declared.output.OutFault.TheVariants as out
use Rattle.krb_text.specs.declared.line_fault.ScriptRefusal.{ScriptRefusal}
use Rattle.krb_text.specs.declared.line_fault.ScriptRefusal.TheVariants as refusal
pub use Rattle.krb_text.specs.declared.line_fault.LineFault.{LineFault}
use Rattle.krb_text.specs.declared.line_fault.LineFault.TheVariants.{UnknownWord}
pub use Rattle.krb_driver.specs.declared.file_name.NameSource.{NameSource}
pub use Rattle.krb_driver.specs.declared.first_word.FirstWord.{FirstWord}
use Rattle.krb_driver.specs.declared.file_name.NameSource.TheVariants.{Word}
pub use Rattle.krb_driver.specs.declared.error.RunError.{RunError}
use Rattle.krb_driver.specs.declared.error.RunError.TheVariants as error
use Rattle.krb_driver.specs.FirstWords.{first_word, line_at, safe_word}

-- the verdict of a listing: well, or listed with the fault of a damaged file
abbrev pub listing_verdict : Option Fault → Verdict
listing_verdict None = Well
listing_verdict (Some fault) = Listed fault

-- the verdict of a run that added an entry which MIT's programs do not see, since from a place on they see none
abbrev pub hiding : Option ℕ → Verdict → Verdict
hiding (Some place) Well = HiddenFrom place
hiding place (Replied reported) = Replied (record reported { hidden_from = place })
hiding place verdict = verdict

-- the message for a run that ended with a verdict: none, but where nothing was found to remove
abbrev pub verdict_message : List ℕ → Verdict → List ℕ
verdict_message file (NothingToRemove kind) = file_message file (said_text (Refused NotFound))
verdict_message file verdict = []

-- the exit status by the verdict of a run
abbrev pub verdict_status : Verdict → ℕ
verdict_status Well = 0
verdict_status (HiddenFrom place) = 0
verdict_status NoEntry = 0
verdict_status Without = 0
verdict_status (Found findings) = if findings.is_wrong then 1 else 0
verdict_status (Judged judged) = if judged.is_wrong then 1 else 0
verdict_status verdict = 1

-- ---- where an error that ends a run comes from

-- the error for an input that was not read
abbrev pub input_error : LoadFault → RunError
input_error load.TooLarge = error.InputTooLarge
input_error load.NoMemory = error.NoMemory
input_error other = error.InputNotRead

-- the error for a line with an unknown first word, which is shown if it can be no part of a key
abbrev pub word_error : ℕ → Option FirstWord → RunError
word_error line None = error.FaultyLine line UnknownWord
word_error line (Some word) = error.UnknownWord line word

-- the error for a line of a script that has a fault
abbrev pub line_error : List ℕ → ℕ → LineFault → RunError
line_error script line UnknownWord = word_error line (safe_word (first_word (line_at script line)))
line_error script line fault = error.FaultyLine line fault

-- the error for a script that was refused
abbrev pub script_error : List ℕ → ScriptRefusal → RunError
script_error script (refusal.Fault line kind) = line_error script line kind
script_error script refusal.NoMemory = error.NoMemory

-- the error for a file that was not loaded, by the load's fault
abbrev pub load_error : LoadFault → RunError
load_error load.Missing = error.NoSuchFile Word
load_error load.TooLarge = error.FileTooLarge
load_error load.Failed = error.FileNotRead
load_error load.NoMemory = error.NoMemory

-- the error with the source of the file's name, if it is that there is no such file
abbrev pub error_of_name : NameSource → RunError → RunError
error_of_name source (error.NoSuchFile other) = error.NoSuchFile source
error_of_name source error = error

-- the error for a file that was not saved, by the save's fault
abbrev pub save_error : SaveFault → RunError
save_error save.Failed = error.FileNotWritten
save_error save.NoMemory = error.NoMemory

-- the error for a text that was not written
abbrev pub output_error : OutFault → RunError
output_error out.Write = error.OutputNotWritten
output_error out.NoMemory = error.NoMemory

-- ---- what is said of it

-- a message about the run, a file, or a line of the input
abbrev pub message_about : Subject → List ℕ → List ℕ → List ℕ
message_about Run file what = message what
message_about File file what = file_message file what
message_about (Line line) file what = phrase_line (Some line) what

-- what a message says after the name of a file, if it is about one
abbrev pub said_after : Subject → Says → List ℕ
said_after File says = said_text says
said_after subject says = []

-- what a message says of an error after the name of the file
abbrev pub said_of_file : RunError → List ℕ
said_of_file error = said_after (error_row error).subject (error_row error).says

-- the message for an error of a run over a file
abbrev pub error_message : List ℕ → RunError → List ℕ
error_message file error = message_about (error_row error).subject file (said_text (error_row error).says)

-- the exit status by the error that ended a run
abbrev pub error_status : RunError → ℕ
error_status error = (error_row error).status

-- ---- how a run ends

-- the end of a run: a verdict, or the error that ended it
abbrev pub Ending : Type 0
Ending = Result Verdict RunError

-- a run ended since memory ran out
abbrev pub is_spent : Ending → Bool
is_spent (Err error.NoMemory) = true
is_spent ending = false

-- a run ended since a file was not read
abbrev pub is_unread : Ending → Bool
is_unread (Err error.FileNotRead) = true
is_unread ending = false

-- the message for the end of a run over a file
abbrev pub ending_message : List ℕ → Ending → List ℕ
ending_message file (Ok verdict) = verdict_message file verdict
ending_message file (Err error) = error_message file error

-- the exit status by the end of a run alone
abbrev pub ending_status : Ending → ℕ
ending_status (Ok verdict) = verdict_status verdict
ending_status (Err error) = error_status error

-- the least exit status by what a save left behind: 1 if another program wrote beside it
abbrev pub aftermath_status : Option Aftermath → ℕ
aftermath_status (Some LostChange) = 1
aftermath_status (Some Mixed) = 1
aftermath_status other = 0

-- the exit status of a run, by its end and by what its save left behind
abbrev pub end_status : Ending → Option Aftermath → ℕ
end_status ending aftermath = max (ending_status ending) (aftermath_status aftermath)
