-- What a run of the program prints and reports, and its exit status.
use Rattle.std.specs.Prelude.{Bool, ℕ, List, [], ◌++◌, codes, true, false, ◌||◌, Option, None, Some, ◌≡◌, IsTrue, IsFalse, Err}
use Rattle.krb_files.specs.Bytes.{Watch, AppendsPrefix}
use Rattle.krb_files.specs.declared.aftermath.Aftermath.TheVariants.{Restored}
use Rattle.krb_files.specs.Phrases.{aftermath_phrase}
use Rattle.krb_driver.specs.declared.reporting.details.Details.{Details}
use Rattle.krb_driver.specs.EndingWords.{ending_words, found_fault_words}
use Rattle.krb_driver.specs.Messages.{file_message, phrase_line}
use Rattle.krb_driver.specs.RunErrors.{Aftermath, Fault, RunError, Ending, ending_message, end_status}
use Rattle.std.specs.Io.KnownBytes.{Appends}
use Rattle.krb_driver.specs.declared.error.RunError.TheVariants.{OutputNotWritten, NoMemory}
use Rattle.krb_text.specs.Gathered.{Sent}

-- an error output, and whether the words of --explain follow messages
pub record ErrorWatch : Type 0 where
  pub to : Watch
  pub explains : Bool

-- ---- the text that reports the end of a run

-- the words of --explain, if they are asked for
abbrev pub words_if : Bool → List ℕ → List ℕ
words_if true words = words
words_if false words = []

-- what a save left behind is reported without --explain too, unless the old bytes are back
abbrev pub is_message : Aftermath → Bool
is_message Restored = false
is_message aftermath = true

-- the line that reports what a save of a file left behind
abbrev pub aftermath_line : List ℕ → Option ℕ → Aftermath → List ℕ
aftermath_line file None Restored = phrase_line None (aftermath_phrase Restored)
aftermath_line file None aftermath = file_message file (aftermath_phrase aftermath)
aftermath_line file (Some line) aftermath = phrase_line (Some line) (aftermath_phrase aftermath)

-- the line of what a save left behind, if there is something to report
abbrev pub aftermath_text : Bool → List ℕ → Option ℕ → Option Aftermath → List ℕ
aftermath_text explains file line None = []
aftermath_text explains file line (Some aftermath) = words_if (explains || is_message aftermath) (aftermath_line file line aftermath)

-- what the error output gets at the end of a run: the message, the words of --explain, and what a save left behind
abbrev pub ending_text : Bool → List ℕ → Option ℕ → Details → Ending → List ℕ
ending_text explains file line details ending =
    ending_message file ending ++ (words_if explains (ending_words file line details ending) ++ aftermath_text explains file line details.aftermath)

-- ---- what a run of the program prints and reports, and its exit status

-- what is due of a run: what it prints, and how it ends
pub record Run : Type 0 where
  pub out : List ℕ
  pub ending : Ending

-- a run that prints nothing and ends with an error
abbrev pub ends_by : RunError → Run
ends_by error = record { out = []; ending = Err error }

-- a text was printed, from the output `out` to `out'`, and the run ended as is due; or the output failed, which ended it, and has a prefix
pub record Shows (due : Run) (out out' : Watch) (ending : Ending) : Type 0 where
  pub done : IsFalse out'.failed → Appends out.contents out'.contents due.out × (ending ≡ due.ending)
  pub prefix : AppendsPrefix out.contents out'.contents due.out
  pub failed : IsTrue out'.failed → ending ≡ Err OutputNotWritten
  pub still : due.out ≡ [] → out'.failed ≡ out.failed

-- memory ran out while a text was printed, from the output `out` to `out'`
pub record BreaksOff (due : Run) (out out' : Watch) (ending : Ending) : Type 0 where
  pub ending_is : ending ≡ Err NoMemory
  pub well : IsFalse out'.failed
  pub prefix : AppendsPrefix out.contents out'.contents due.out

-- a text was written, from `old` to `new`: the whole text, or a prefix if the writer has failed
pub record Writes (old new : Watch) (text : List ℕ) : Type 0 where
  pub prefix : AppendsPrefix old.contents new.contents text
  pub whole : IsFalse new.failed → Appends old.contents new.contents text

-- the words of --explain for a name of the keytab that is nearly the one looked for
unfoldable pub near_words : Option (List ℕ) → List ℕ
near_words None = []
near_words (Some name) = codes "krbfile: the keytab has " ++ (name ++ codes "\n")

-- a nearly equal name of the keytab, and the fault of a file, were written for --explain, from the error output `err` to `err'`
pub record NamesNear (near : Option (List ℕ)) (file : List ℕ) (fault : Option Fault) (err err' : ErrorWatch) : Type 0 where
  pub writes : Writes err.to err'.to (words_if err.explains (near_words near ++ found_fault_words file fault))
  pub still : err'.explains ≡ err.explains

-- a text was written after what was written since some start; or the writer had failed, and nothing was written
abbrev pub WritesOn : Watch → Watch → List ℕ → Type 0
WritesOn old new text = (start : Watch) (before : List ℕ) → Writes start old before → Writes start new (before ++ text)

-- the end of a run over a file, or of a line of ktutil, was reported, from the error output `err` to `err'`
pub record ReportsEnd (file : List ℕ) (line : Option ℕ) (details : Details) (ending : Ending) (err err' : ErrorWatch) : Type 0 where
  pub writes : Writes err.to err'.to (ending_text err.explains file line details ending)
  pub still : err'.explains ≡ err.explains

-- the end of a run was reported, from the error output `err` to `err'`; the exit status is by the end and by what a save left behind
pub record Reports (file : List ℕ) (line : Option ℕ) (details : Details) (ending : Ending) (err err' : ErrorWatch) (status : ℕ) : Type 0 where
  pub reports : ReportsEnd file line details ending err err'
  pub status_is : status ≡ end_status ending details.aftermath

-- what a run has to print was printed, from the output `out` to `out'`, and its end was reported, with this exit status
pub record EndsRun (file : List ℕ) (line : Option ℕ) (due : Run) (out out' : Watch) (err err' : ErrorWatch) (status : ℕ) : Type 0 where
  pub ending : Ending
  pub details : Details
  pub shows : Shows due out out' ending
  pub reported : Reports file line details ending err err' status

-- ---- a text on its way to a writer that ignores failures

-- of a text that began when the writer had `start`, all is written or gathered; or the writer has failed, and a prefix is written
pub record Underway (start : Option (List ℕ)) (err : Watch) (gathered text : List ℕ) : Type 0 where
  pub whole : IsFalse err.failed → Sent start err.contents text gathered
  pub prefix : AppendsPrefix start err.contents text

-- a text was added to the one on its way
abbrev pub Adds : Watch → List ℕ → Watch → List ℕ → List ℕ → Type 0
Adds err gathered err' gathered' text = (start : Option (List ℕ)) (before : List ℕ) → Underway start err gathered before → Underway start err' gathered' (before ++ text)

-- the text on its way was written
abbrev pub Sends : Watch → List ℕ → Watch → Type 0
Sends err gathered err' = (start : Watch) (text : List ℕ) → Underway start.contents err gathered text → Writes start err' text
