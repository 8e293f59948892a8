-- What a run of one command over several files does.
use Rattle.std.specs.Prelude.{◌≡◌, ◌⊎◌, ℕ, max, List, [], ◌∷◌, ◌++◌, codes, Bool, true, false, IsTrue, IsFalse, if◌then◌else◌, Option, Err}
use Rattle.krb_driver.specs.declared.error.RunError.TheVariants as error
use Rattle.krb_driver.specs.Commands.{Ghosts, RunEnd, World, FileName, CommandPlan, EndsCommand, any}
use Rattle.krb_driver.specs.FileNames.{shown_name}
use Rattle.krb_driver.specs.RunErrors.{Ending}

-- what a line begins with if there are several files: the name of its file, and a colon
abbrev pub label_of : Bool → List ℕ → List ℕ
label_of are_several name = if are_several then shown_name name ++ codes ": " else []

-- no file comes after a run that ended so: memory ran out, or the output failed
abbrev pub is_last : Ending → Bool
is_last (Err error.NoMemory) = true
is_last (Err error.OutputNotWritten) = true
is_last ending = false

-- where a run over several files is, between two of them: the world, what the command remembers, and the greatest status so far
pub record Round (S F R W E : Type 0) : Type 0 where
  pub world : World F R W E
  pub state : S
  pub status : ℕ

module _ {S F R W E : Type 0} (trait : Ghosts F) (plan : S → FileName → Option ℕ → CommandPlan) (after : S → RunEnd → S) where
  -- a command was run over one of several files, which took the run from `old` to `new`
  pub record RunsFile (file : FileName) (old new : Round S F R W E) (end : RunEnd) : Type 0 where
    pub runs : EndsCommand trait (plan old.state file) any old.world new.world end
    pub state : new.state ≡ after old.state end
    pub worst : new.status ≡ max old.status end.status

  -- a command was run over files one after the other, which took the run from `old` to `new`, up to the last file or to an end that no file follows
  abbrev pub RunsOver : List FileName → Round S F R W E → Round S F R W E → Type 0
  RunsOver [] old new = new ≡ old
  RunsOver (file ∷ files) old new =
      (between : Round S F R W E) × (end : RunEnd) × RunsFile file old between end
      × ((IsTrue (is_last end.ending) × (new ≡ between)) ⊎ (IsFalse (is_last end.ending) × RunsOver files between new))

-- where a run over several files begins
abbrev pub first_round : {S F R W E : Type 0} → S → World F R W E → Round S F R W E
first_round state world = record { world = world; state = state; status = 0 }
