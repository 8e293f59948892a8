-- How a run of hold ended, and the last line that says it to the program that started it.
use Rattle.std.specs.Prelude.{ℕ, ◌+◌, List, [], ◌++◌, codes, decimal, Option, None, Some, ◌≡◌, IsTrue, Result, Ok, Err}
use Rattle.krb_walk.specs.Phrases.{code_number}
use Rattle.krb_files.specs.declared.aftermath.Aftermath.TheVariants as aftermath
use Rattle.krb_files.specs.declared.cause.Cause.{Cause}
use Rattle.krb_files.specs.Bytes.{Watch}
use Rattle.krb_files.specs.Phrases.{cause_name}
use Rattle.krb_driver.specs.declared.command.FileError.{FileError}
use Rattle.krb_driver.specs.declared.verdict.Verdict.TheVariants.{Well}
use Rattle.krb_driver.specs.Loading.{result_map_err}
use Rattle.krb_driver.specs.declared.error.RunError.{RunError}
use Rattle.krb_driver.specs.ErrorRows.{NotOpened, Refused, Says, error_row}
use Rattle.krb_driver.specs.NotOpened.{opening_number}
use Rattle.krb_driver.specs.RunErrors.{Aftermath, Ending}
use Rattle.krb_driver.specs.Runs.{Writes}
use Rattle.krb_editors.specs.declared.hold.last_line.Outcome.{Outcome}
use Rattle.krb_editors.specs.declared.hold.last_line.Outcome.TheVariants.{Saved, Left}

-- how hold ended: it saved the file or left it, or the error and the name of its file
abbrev pub HoldEnd : Type 0
HoldEnd = Result Outcome (List ℕ × RunError)

-- how a run ended that held a file, without what it did with the file
abbrev pub ending_of : HoldEnd → Ending
ending_of (Ok outcome) = Ok Well
ending_of (Err met) = Err met.1

-- the file that hold's message is about
abbrev pub about_end : List ℕ → HoldEnd → List ℕ
about_end file (Ok outcome) = file
about_end file (Err met) = met.0

-- the end that what a function returned comes to
abbrev pub end_of : {X : Type 0} → Result X FileError → Result X (List ℕ × RunError)
end_of result = result_map_err (λ met. (met.file.now, met.error)) result

-- ---- the last line

-- the name that errno.h has for the cause of a failed call, or EIO if the cause is unknown
abbrev pub cause_name_or : Option Cause → List ℕ
cause_name_or (Some cause) = cause_name cause
cause_name_or None = codes "EIO"

-- why hold failed, by what the error's message says and by the name in its row: a number of krbfile.h for an image that does not open or is refused, or else a name of errno.h
abbrev pub why_by : Says → List ℕ → Option Cause → List ℕ
why_by (NotOpened why) name cause = decimal (10 + opening_number why)
why_by (Refused code) name cause = decimal (30 + code_number code)
why_by says [] cause = cause_name_or cause
why_by says name cause = name

-- why hold failed, for its last line
abbrev pub why_failed : RunError → Option Cause → List ℕ
why_failed error cause = why_by (error_row error).says (error_row error).name cause

-- the last line of hold by its exit status, the cause of a failed call, what the save left behind, and how hold ended
abbrev pub last_line : ℕ → Option Cause → Option Aftermath → HoldEnd → List ℕ
last_line status cause (Some aftermath.Damaged) end = codes "damaged\n"
last_line status cause (Some aftermath.Mixed) end = codes "damaged\n"
last_line status cause (Some aftermath.LostChange) end = codes "lost\n"
last_line status cause left (Ok Saved) = codes "saved\n"
last_line status cause left (Ok Left) = codes "left\n"
last_line status cause left (Err met) = codes "failed " ++ (decimal status ++ (codes " " ++ (why_failed met.1 cause ++ codes "\n")))

-- hold's last line was written, or a prefix of it if the output failed then; nothing was if it had failed before
pub record TellsEnd (old new : Watch) (line : List ℕ) : Type 0 where
  pub writes : Writes old new line
  pub none : IsTrue old.failed → new ≡ old
