-- What a load or a save of a file did.
use Rattle.std.specs.Prelude.{◌≡◌, ◌⊎◌, ◌≤◌, ℕ, List, Option, None, Result, Err, OnOk, OnErr}
use Rattle.krb_files.specs.declared.files.Files.{Ghosts}
use Rattle.krb_files.specs.declared.files.LoadFault.{LoadFault}
use Rattle.krb_files.specs.declared.files.LoadFault.TheVariants as load
use Rattle.krb_files.specs.declared.files.SaveFault.{SaveFault}
use Rattle.krb_files.specs.declared.files.SaveFault.TheVariants as save
use Rattle.krb_files.specs.Files.{SameFiles, SetsFile, CountsFailure, loaded}

-- the most bytes that a file may have: 16 MiB
abbrev pub most_bytes : ℕ
most_bytes = 16777216

-- the result of a load
abbrev pub Answer : Type 0
Answer = Result (List ℕ) LoadFault

-- the hold of a name began, or ended, from files `old` to `new`; all else is equal
pub record TurnsHold {F : Type 0} (trait : Ghosts F) (held : Option (List ℕ)) (old new : F) : Type 0 where
  pub held_is : trait.held new ≡ held
  pub honest : trait.is_honest old → trait.is_honest new
  pub same : SameFiles (trait.file old) (trait.file new)
  pub count : trait.failure_count new ≡ trait.failure_count old
  pub mode : trait.mode new ≡ trait.mode old

module _ {F : Type 0} (trait : Ghosts F) (old : F) (name : List ℕ) where
  -- the file of a name was loaded, with this result, from the files `old`, which left `new`: over honest files what is there, unless the call failed or memory ran out
  pub record LoadsFile (answer : Answer) (new : F) : Type 0 where
    pub answered : trait.answers old name most_bytes answer new
    pub failed : answer ≡ Err load.Failed → CountsFailure (trait.failure_count old) (trait.failure_count new)
    pub count : trait.failure_count old ≤ trait.failure_count new
    pub held : trait.held new ≡ trait.held old
    pub honest : trait.is_honest old → trait.is_honest new
    pub same : trait.is_honest old → SameFiles (trait.file old) (trait.file new)
    pub is_what_is_there : trait.is_honest old → (answer ≡ Err load.Failed) ⊎ (answer ≡ Err load.NoMemory) ⊎ (answer ≡ loaded (trait.file old name) most_bytes)

  -- bytes were saved under a name, with this result, from the files `old` to `new`: over honest files only that file changed, and none if the save failed
  pub record SavesFile (bytes : List ℕ) (answer : Result (Unit {0}) SaveFault) (new : F) : Type 0 where
    pub answered : trait.saves old name bytes answer new
    pub failed : answer ≡ Err save.Failed → CountsFailure (trait.failure_count old) (trait.failure_count new)
    pub count : trait.failure_count old ≤ trait.failure_count new
    pub held : trait.held new ≡ None
    pub honest : trait.is_honest old → trait.is_honest new
    pub sets : trait.is_honest old → OnOk answer (SetsFile (trait.file old) name bytes (trait.file new))
    pub same : trait.is_honest old → OnErr answer (SameFiles (trait.file old) (trait.file new))
