-- What a command comes to: what it prints, saves and ends with.
use Rattle.std.specs.Prelude.{◌≡◌, ◌⊎◌, ℕ, Bool, true, false, List, Result, Ok, Err}
use Rattle.krb_files.specs.Files.{FileMap}
use Rattle.krb_files.specs.Plan.{with_bytes}
use Rattle.krb_driver.specs.declared.error.RunError.TheVariants as error
use Rattle.krb_driver.specs.RunErrors.{SaveFault, RunError, Verdict, Ending, save_error}

-- a page: what is printed, how the run then ends, and whether printing takes memory
pub record Page : Type 0 where
  pub out : List ℕ
  pub ending : Ending
  pub takes : Bool

-- the page of a text that is ready, which ends well
abbrev pub text : List ℕ → Verdict → Page
text out verdict = record { out = out; ending = Ok verdict; takes = false }

-- what a command comes to, with the name of its file: an error, a page to print, or bytes to save and a text to print after the save
pub data Effect : Type 0 where
  Fails : List ℕ → RunError → Effect
  Displays : List ℕ → Page → Effect
  Saves : List ℕ → List ℕ → List ℕ → Verdict → Effect

-- how a run ends by its effect, if no call fails
abbrev pub ending_of : Effect → Ending
ending_of (Fails file why) = Err why
ending_of (Displays file page) = page.ending
ending_of (Saves file bytes out verdict) = Ok verdict

-- the file that an effect is about
abbrev pub about : Effect → List ℕ
about (Fails file why) = file
about (Displays file page) = file
about (Saves file bytes out verdict) = file

-- an effect saves a file
abbrev pub is_save : Effect → Bool
is_save (Saves file bytes out verdict) = true
is_save effect = false

-- the effect of saving bytes and then printing a text; in a dry run the text is printed and nothing is saved
abbrev pub saves_unless : Bool → List ℕ → List ℕ → List ℕ → Verdict → Effect
saves_unless true file bytes out verdict = Displays file (text out verdict)
saves_unless false file bytes out verdict = Saves file bytes out verdict

-- what is left to print after a save, by the save's result
abbrev pub saved_end : List ℕ → List ℕ → Verdict → Result (Unit {0}) SaveFault → Effect
saved_end file out verdict (Ok done) = Displays file (text out verdict)
saved_end file out verdict (Err fault) = Fails file (save_error fault)

-- what an effect prints if no call fails
abbrev pub settled : Effect → Effect
settled (Saves file bytes out verdict) = Displays file (text out verdict)
settled effect = effect

-- the files after an effect, if no call fails
abbrev pub files_after : FileMap → Effect → FileMap
files_after files (Saves file bytes out verdict) = with_bytes files file bytes
files_after files effect = files

-- an effect reports that memory ran out
abbrev pub IsSpent : Effect → Type 0
IsSpent effect = (file : List ℕ) × (effect ≡ Fails file error.NoMemory)

-- an effect is the one that is due, or reports that memory ran out
abbrev pub IsMade : Effect → Effect → Type 0
IsMade due effect = IsSpent effect ⊎ (effect ≡ due)
