-- The plan of a command over files, and what a run of it does.
use Rattle.std.specs.Prelude.{◌≡◌, ◌⊎◌, ℕ, Bool, true, false, not, ◌&&◌, ◌||◌, if◌then◌else◌, List, Result, Ok, Err, [], ◌∷◌, Option, None, Some, IsTrue}
use Rattle.krb_files.specs.declared.files.SaveFault.{SaveFault}
use Rattle.krb_files.specs.Files.{SameFiles, CountsFailure}
pub use Rattle.krb_files.specs.Loading.{Answer, LoadsFile, SavesFile, TurnsHold}
pub use Rattle.krb_files.specs.Plan.{Plan, Ends, Holds, Loads, Loaded, follow}
pub use Rattle.krb_driver.specs.declared.error.RunError.{RunError}
use Rattle.krb_driver.specs.declared.error.RunError.TheVariants as error
pub use Rattle.krb_driver.specs.declared.file_name.FileName.{FileName}
use Rattle.krb_driver.specs.RunErrors.{error_of_name, Ending, is_spent, is_unread}
pub use Rattle.krb_files.specs.declared.files.Files.{Ghosts}
use Rattle.krb_files.specs.declared.aftermath.Aftermath.{Aftermath}
use Rattle.krb_files.specs.declared.files.LoadFault.TheVariants as load
use Rattle.krb_files.specs.Bytes.{Watch}
pub use Rattle.krb_driver.specs.declared.command.RunEnd.{RunEnd}
use Rattle.krb_driver.specs.declared.reporting.details.Details.{Details}
pub use Rattle.krb_driver.specs.declared.command.World.{World}
use Rattle.krb_driver.specs.Runs.{ErrorWatch, Run, EndsRun, Shows, BreaksOff, Reports, ends_by}
pub use Rattle.krb_driver.specs.Effects.{Page, text, Effect, Fails, Displays, Saves, ending_of, about, is_save, saves_unless, saved_end, settled, files_after, IsSpent, IsMade}

-- the plan of a command: which files it holds and loads, and what it comes to by what they give
abbrev pub CommandPlan : Type 0
CommandPlan = Plan Effect

-- a plan goes on with what a file gave, or with the error, which then says where the file's name comes from
abbrev pub goes_on : {X : Type 0} → FileName → Result X RunError → (X → CommandPlan) → (RunError → CommandPlan) → CommandPlan
goes_on file (Ok x) then_ fails = then_ x
goes_on file (Err why) then_ fails = fails (error_of_name file.source why)

-- a plan that loads and opens a file, and goes on with the keytab or cache, or with the error; a file whose name has a type that is not read is an error and is not loaded
abbrev pub tries : {X : Type 0} → FileName → (Answer → Result X RunError) → (X → CommandPlan) → (RunError → CommandPlan) → CommandPlan
tries file gives then_ fails =
    if file.is_other_type then fails (error.OtherType file.kind file.source) else Loads file.name.now (λ answer. goes_on file (gives answer) then_ fails)

-- a plan that loads and opens a file, and goes on with the keytab or cache; an error ends it
abbrev pub opens : {X : Type 0} → FileName → (Answer → Result X RunError) → (X → CommandPlan) → CommandPlan
opens file gives then_ = tries file gives then_ (λ why. Ends (Fails file.name.now why))

-- a file that is to be held is held, unless its name has a type that is not read
abbrev pub can_hold : Bool → FileName → Bool
can_hold held file = held && not file.is_other_type

-- a plan that first holds a file, if `held`
abbrev pub holds : Bool → FileName → CommandPlan → CommandPlan
holds held file plan = Holds (can_hold held file) file.name.now plan

-- ---- what is made of the files

-- what a plan comes to where a file was not read: its own report of that, if it has one, or else the error
abbrev pub if_unread : List ℕ → CommandPlan → Effect
if_unread name (Ends effect) = if is_unread (ending_of effect) then effect else Fails name error.FileNotRead
if_unread name plan = Fails name error.FileNotRead

-- what a plan comes to by the results of its loads: a load that failed, or memory that ran out, ends it, but it may report a failed load itself
abbrev pub effect_by : CommandPlan → List Answer → Effect
effect_by (Ends effect) answers = effect
effect_by (Holds held name plan) answers = effect_by plan answers
effect_by (Loads name then_) [] = Fails name error.NoMemory
effect_by (Loads name then_) (Err load.Failed ∷ answers) = if_unread name (then_ (Err load.Failed))
effect_by (Loads name then_) (Err load.NoMemory ∷ answers) = Fails name error.NoMemory
effect_by (Loads name then_) (answer ∷ answers) = effect_by (then_ answer) answers

-- what a file gave, or the error with the file's name
abbrev pub of_file : {X : Type 0} → FileName → Result X RunError → Result X (List ℕ × RunError)
of_file file (Ok x) = Ok x
of_file file (Err why) = Err (file.name.now, error_of_name file.source why)

-- `Fair` holds of what was opened, if a file was
abbrev pub FairOver : {X E : Type 0} → (X → Type 0) → Result X E → Type 0
FairOver Fair (Ok x) = Fair x
FairOver Fair (Err e) = Unit {0}

-- `Fair` holds of what the first load gave, if a file was opened
abbrev pub fair_first : {X : Type 0} → (Answer → Result X RunError) → (X → Type 0) → List Answer → Type 0
fair_first gives Fair [] = Unit {0}
fair_first gives Fair (answer ∷ answers) = FairOver Fair (gives answer)

module _ {F : Type 0} (trait : Ghosts F) (old : F) where
  -- a file was loaded from the files `old`, which left `new`, and `given` is what the load gave, or that memory ran out
  pub record GivesLoaded {X : Type 0} (file : FileName) (gives : Answer → Result X RunError) (given : Result X (List ℕ × RunError)) (new : F) : Type 0 where
    pub answer : Answer
    pub loads : LoadsFile trait old file.name.now answer new
    pub given_is : (given ≡ Err (file.name.now, error.NoMemory)) ⊎ (given ≡ of_file file (gives answer))
    pub failed : gives (Err load.Failed) ≡ Err error.FileNotRead
    pub spent : gives (Err load.NoMemory) ≡ Err error.NoMemory
    pub read : file.is_other_type ≡ false

  -- a file was loaded from the files `old`, which left `new`, and `given` is what it gave; or it was not loaded, as its name has a type that is not read
  abbrev pub GivesOf : {X : Type 0} → FileName → (Answer → Result X RunError) → Result X (List ℕ × RunError) → F → Type 0
  GivesOf file gives given new =
      GivesLoaded file gives given new
      ⊎ ((file.is_other_type ≡ true) × (new ≡ old) × (given ≡ Err (file.name.now, error.OtherType file.kind file.source)))

  -- the files of a plan were held and loaded, which took them from `old` to `new`, and `effect` is what the plan comes to by the results; or memory ran out
  pub record Makes (plan : CommandPlan) (effect : Effect) (new : F) : Type 0 where
    pub answers : List Answer
    pub loads : Loaded trait plan old answers new
    pub made : IsSpent effect ⊎ (effect ≡ effect_by plan answers)

  -- the files of a plan were held and loaded, from `old` to `new`, and `Fairly` holds of the results, unless memory ran out
  pub record MakesFairly (plan : CommandPlan) (Fairly : List Answer → Type 0) (effect : Effect) (new : F) : Type 0 where
    pub makes : Makes plan effect new
    pub fair : IsSpent effect ⊎ Fairly makes.answers

  -- what an effect saves was saved, or the save failed, which took the files from `old` to `new`; `end` is what is then left to print
  abbrev pub Settles : Effect → F → Effect → Type 0
  Settles (Saves file bytes out verdict) new end =
      (answer : Result (Unit {0}) SaveFault) × (SavesFile trait old file bytes answer new × (end ≡ saved_end file out verdict answer))
  Settles effect new end = (new ≡ old) × (end ≡ effect)

-- over honest files an effect was done in full; or the files are as before, since a call failed (which is counted) or memory ran out
abbrev pub Keeps : {F : Type 0} → Ghosts F → Effect → F → F → Effect → Type 0
Keeps trait due old new left =
    ((left ≡ settled due) × SameFiles (files_after (trait.file old) due) (trait.file new))
    ⊎ ((CountsFailure (trait.failure_count old) (trait.failure_count new) × (SameFiles (trait.file old) (trait.file new) × (IsTrue (is_unread (ending_of left)) ⊎ ((file : List ℕ) × (left ≡ Fails file error.FileNotWritten)))))
    ⊎ (SameFiles (trait.file old) (trait.file new) × IsSpent left))

-- ---- what is shown

-- a page was printed, from the output `out` to `out'`; or memory ran out before its end, if it takes memory
abbrev pub ShowsPage : Watch → Watch → Ending → Page → Type 0
ShowsPage out out' ending page =
    let run : Run = record { out = page.out; ending = page.ending } in
    Shows run out out' ending ⊎ (IsTrue page.takes × BreaksOff run out out' ending)

-- what an effect left to print was printed, from the output `out` to `out'`
abbrev pub ShowsEnd : Watch → Watch → Ending → Effect → Type 0
ShowsEnd out out' ending (Fails file why) = Shows (ends_by why) out out' ending
ShowsEnd out out' ending (Displays file page) = ShowsPage out out' ending page
ShowsEnd out out' ending (Saves file bytes out_ verdict) = ⊥

-- an effect prints a page that takes memory, or reports that memory ran out
abbrev pub Takes : Effect → Type 0
Takes (Displays file page) = IsTrue (page.takes || is_spent page.ending)
Takes effect = ⊥

-- what is reported of what a save left behind, if the run saved; for a line of ktutil only if memory did not run out
abbrev pub reported_aftermath : Option ℕ → Effect → Ending → Option Aftermath → Option Aftermath
reported_aftermath None effect ending left = if is_save effect then left else None
reported_aftermath (Some number) effect ending left = if is_save effect && not (is_spent ending) then left else None

-- an effect was done, at the end of a run or of a line of ktutil: saved, printed and reported, and the held file released; the files went from `old` to `new`, the outputs from `out` and `err` to `out'` and `err'`
pub record Finishes {F : Type 0} (trait : Ghosts F) (line : Option ℕ) (effect : Effect) (old new : F) (out out' : Watch) (err err' : ErrorWatch) (end : RunEnd) : Type 0 where
  pub left : Effect
  pub done : F
  pub settles : Settles trait old effect done left
  pub released : TurnsHold trait None done new
  pub shown : ShowsEnd out out' end.ending left
  pub details : Details
  pub reported : Reports (about left) line details end.ending err err' end.status
  pub left_behind : details.aftermath ≡ reported_aftermath line effect end.ending (trait.aftermath new)
  pub honest : trait.is_honest new → trait.aftermath new ≡ None

module _ {F R W E : Type 0} (trait : Ghosts F) (plan : Option ℕ → CommandPlan) (Fairly : List Answer → Type 0) (old new : World F R W E) where
  -- a run of a command with this plan ended with `end` and took the world from `old` to `new`: what it saved and printed is what the plan comes to by the results of its loads
  pub record EndsCommand (end : RunEnd) : Type 0 where
    pub effect : Effect
    pub made : F
    pub makes : MakesFairly trait old.files (plan (trait.mode made)) Fairly effect made
    pub finishes : Finishes trait None effect made new.files old.out new.out old.err new.err end
    pub input : new.input ≡ old.input
    -- over honest files
    pub honest : trait.is_honest old.files → Keeps trait (follow (trait.file old.files) (plan (trait.mode made))) old.files new.files finishes.left
    -- if memory runs out
    pub spared : end.ending ≡ Err error.NoMemory → trait.is_honest old.files → SameFiles (trait.file old.files) (trait.file new.files)
    pub quiet : end.ending ≡ Err error.NoMemory → Shows (ends_by error.NoMemory) old.out new.out end.ending ⊎ Takes finishes.left

  -- a run of a command took the world from `old` to `new`, with this exit status
  abbrev pub Runs : ℕ → Type 0
  Runs status = (ending : Ending) × EndsCommand (record { ending = ending; status = status })

module _ {F R W E : Type 0} (trait : Ghosts F) (old new : World F R W E) (status : ℕ) where
  -- a run ended with the error `why` before it did anything: it only reported the error
  abbrev pub EndsBefore : RunError → Type 0
  EndsBefore why = (new ≡ record old { err = new.err }) × ((details : Details) × ((details.aftermath ≡ None) × Reports [] None details (Err why) old.err new.err status))

  -- a run that uses no file printed and reported what is due, which took the world from `old` to `new`
  abbrev pub Prints : Run → Type 0
  Prints due = (new ≡ record old { out = new.out; err = new.err }) × EndsRun [] None due old.out new.out old.err new.err status

  -- a run of a command with what it needs, once that was read, or the error if it was not
  abbrev pub RunsWith : {X : Type 0} → (X → CommandPlan) → (X → List Answer → Type 0) → Result X RunError → Type 0
  RunsWith plan fairly (Ok x) = Runs trait (λ mode. plan x) (fairly x) old new status
  RunsWith plan fairly (Err why) = EndsBefore why

-- a plan that does not depend on the mode of the file
unfoldable pub always : CommandPlan → Option ℕ → CommandPlan
always plan mode = plan

-- nothing more is known of the results of loads
abbrev pub any : List Answer → Type 0
any answers = Unit {0}
