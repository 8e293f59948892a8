-- How code puts the parts of a plan together: what each part did, and what the whole plan makes of it.
use Rattle.std.specs.Prelude.{◌≡◌, ℕ, Bool, List, Result, Ok, Err}
use Rattle.krb_files.specs.Plan.{Faults}
use Rattle.krb_driver.specs.declared.error.RunError.TheVariants as error
use Rattle.krb_driver.specs.declared.command.FileError.{FileError}
use Rattle.krb_driver.specs.declared.command.Made.{Made}
use Rattle.krb_driver.specs.declared.command.Made.TheVariants as made
use Rattle.krb_driver.specs.declared.command.Output.{Output}
use Rattle.krb_driver.specs.declared.command.Ready.{Ready}
use Rattle.krb_driver.specs.declared.command.Ready.TheVariants as ready
use Rattle.krb_driver.specs.Commands.{Answer, Ends, Holds, RunError, FileName, Ghosts, Page, text, Effect, Fails, Displays, Saves, CommandPlan, tries, opens, if_unread, Makes}

-- ---- files that were tried, opened and held

-- the effects if a file was not read, or if memory ran out there
abbrev pub faults : Faults Effect
faults = record { unread = λ file. Fails file error.FileNotRead; spent = λ file. Fails file error.NoMemory }

-- a command that goes on so after an error of that file ends if memory ran out or the file was not read
pub record EndsAfter (file : FileName) (fails : RunError → CommandPlan) : Type 0 where
  pub spent : fails error.NoMemory ≡ Ends (Fails file.name.now error.NoMemory)
  pub unread : fails error.FileNotRead ≡ Ends (if_unread file.name.now (fails error.FileNotRead))

module _ {F : Type 0} (trait : Ghosts F) (old : F) where
  -- a file was tried: whatever the rest of the plan makes after it, `tries` makes as a whole
  abbrev pub Tries : {X : Type 0} → FileName → (Answer → Result X RunError) → Result X RunError → F → Type 0
  Tries {X = X} file gives (Ok x) new = (then_ : X → CommandPlan) (fails : RunError → CommandPlan) (effect : Effect) (end : F) → EndsAfter file fails → Makes trait new (then_ x) effect end → Makes trait old (tries file gives then_ fails) effect end
  Tries {X = X} file gives (Err why) new = (then_ : X → CommandPlan) (fails : RunError → CommandPlan) (effect : Effect) (end : F) → EndsAfter file fails → Makes trait new (fails why) effect end → Makes trait old (tries file gives then_ fails) effect end

  -- a file was opened: what `then_` makes of it is what the plan that opens it makes; an error ends the plan
  abbrev pub Opens : {X : Type 0} → FileName → (Answer → Result X RunError) → Result X (List ℕ × RunError) → F → Type 0
  Opens {X = X} file gives (Ok x) new = (then_ : X → CommandPlan) (effect : Effect) (end : F) → Makes trait new (then_ x) effect end → Makes trait old (opens file gives then_) effect end
  Opens {X = X} file gives (Err met) new = (then_ : X → CommandPlan) → Makes trait old (opens file gives then_) (Fails met.0 met.1) new

  -- a file was held, if `held`: what a plan makes afterwards is what the plan that holds the file first makes
  abbrev pub HoldsIf : Bool → List ℕ → F → Type 0
  HoldsIf held file new = (plan : CommandPlan) (effect : Effect) (end : F) → Makes trait new plan effect end → Makes trait old (Holds held file plan) effect end

-- ---- what a command makes

-- what was opened, or the error with the file's name
abbrev pub opened : {K X : Type 0} → (K → X) → Result K FileError → Result X (List ℕ × RunError)
opened seen (Ok k) = Ok (seen k)
opened seen (Err met) = Err (met.file.now, met.error)

-- the page of a finished text
abbrev pub output_page : {A : Type 0} → Output A → Page
output_page shown = text shown.text.items shown.verdict

-- the effect that `Command::make` returns
abbrev pub made_effect : {A S : Type 0} → (S → List ℕ → Page) → List ℕ → Result (Made A S) FileError → Effect
made_effect page file (Ok (made.Shows shown)) = Displays file (page shown file)
made_effect page file (Ok (made.Saves image shown)) = Saves file image.items shown.text.items shown.verdict
made_effect page file (Err met) = Fails met.file.now met.error

-- the effect that `Command::make` returns, of a command that prints a text
abbrev pub text_effect : {A : Type 0} → List ℕ → Result (Made A (Output A)) FileError → Effect
text_effect file made = made_effect (λ shown _. output_page shown) file made

-- what is left to show after a save
abbrev pub ready_end : {A S : Type 0} → (S → List ℕ → Page) → List ℕ → Result (Ready A S) FileError → Effect
ready_end page file (Ok (ready.Shows shown)) = Displays file (page shown file)
ready_end page file (Ok (ready.Prints shown)) = Displays file (output_page shown)
ready_end page file (Err met) = Fails met.file.now met.error
