-- What removals from several files do.
use Rattle.std.specs.Prelude.{◌≡◌, ◌⊎◌, ℕ, max, List, length, Bool, true, false, nat_lt, IsTrue, IsFalse, Option, Result, Ok, Err}
use Rattle.krb_driver.specs.declared.error.RunError.TheVariants as error
use Rattle.krb_driver.specs.declared.verdict.FileKind.{FileKind}
use Rattle.krb_driver.specs.declared.verdict.Verdict.TheVariants.{Without}
use Rattle.krb_driver.specs.declared.command.RunEnd.{RunEnd}
use Rattle.krb_driver.specs.declared.command.World.{World}
use Rattle.krb_driver.specs.declared.error.RunError.{RunError}
use Rattle.krb_driver.specs.declared.file_name.FileName.{FileName}
use Rattle.krb_driver.specs.Commands.{Ghosts, CommandPlan, EndsBefore, Prints, always}
use Rattle.krb_driver.specs.RunErrors.{Ending}
use Rattle.krb_driver.specs.Runs.{ends_by}
use Rattle.krb_driver.specs.Several.{RunsOver, first_round}
use Rattle.krb_editors.specs.MissingFiles.{LooksIf}
use Rattle.krb_editors.specs.declared.removing.FilesSeen.{FilesSeen}
use Rattle.krb_editors.specs.declared.removing.FilesSeen.TheVariants as seen

-- what a run over one of several files showed: the file is without what is asked for, or was asked, or neither, as a message was already printed; an end that no file follows counts as asked
abbrev pub seen_of : Ending → FilesSeen
seen_of (Ok Without) = seen.Without
seen_of (Ok verdict) = seen.Asked
seen_of (Err error.FileNotWritten) = seen.Asked
seen_of (Err error.OutputNotWritten) = seen.Asked
seen_of (Err error.NoMemory) = seen.Asked
seen_of (Err other) = seen.None

-- the more that two runs showed: asked is more than without, and without more than neither
abbrev pub more : FilesSeen → FilesSeen → FilesSeen
more seen.None other = other
more seen.Without seen.None = seen.Without
more seen.Without other = other
more seen.Asked other = seen.Asked

-- the most that runs showed, after one run more
abbrev pub seen_after : FilesSeen → RunEnd → FilesSeen
seen_after most end = more most (seen_of end.ending)

-- no file has what is asked for: one is without, and none was asked
abbrev pub is_none : FilesSeen → Bool
is_none seen.Without = true
is_none other = false

module _ {F R W E : Type 0} (trait : Ghosts F) (old new : World F R W E) (status : ℕ) where
  -- at the end of several files it was reported that none has what is asked for
  pub record ReportsNone (kind : FileKind) (worst : ℕ) : Type 0 where
    pub reported : ℕ
    pub prints : Prints trait old new reported (ends_by (error.NothingSelected kind))
    pub status_is : status ≡ max worst reported

  -- after the last file it was reported if no file has what is asked for; else nothing more was done
  abbrev pub EndsRemovals : FileKind → FilesSeen → ℕ → Type 0
  EndsRemovals kind most worst = (IsTrue (is_none most) × ReportsNone kind worst) ⊎ (IsFalse (is_none most) × (new ≡ old) × (status ≡ worst))

module _ {F R W E : Type 0} (trait : Ghosts F) (kind : FileKind) (names : List FileName) (old new : World F R W E) (status : ℕ) (plan : FilesSeen → FileName → Option ℕ → CommandPlan) (after : FilesSeen → RunEnd → FilesSeen) where
  -- the removals from files `names` took the world from `old` to `new` with this status: `plan` says what is done with a file, and `after` what its run shows
  pub record Removes : Type 0 where
    pub most : FilesSeen
    pub between : World F R W E
    pub worst : ℕ
    pub over : RunsOver trait plan after names (first_round seen.None old) (record { world = between; state = most; status = worst })
    pub ends : EndsRemovals trait between new status kind most worst

  -- if one of several files is missing, no file was held, loaded or saved, and the status is 1; else the removals were made
  abbrev pub RemovesUnless : Bool → Type 0
  RemovesUnless true = (new ≡ old) × (status ≡ 1)
  RemovesUnless false = Removes

module _ {F R W E : Type 0} (trait : Ghosts F) (kind : FileKind) (names : List FileName) (old new : World F R W E) (status : ℕ) where
  -- a run over files `names` took the world from `old` to `new` with this status: several files were looked at first, and the removals were made, unless a file is missing
  pub record LooksAndRemoves (plan : FilesSeen → FileName → Option ℕ → CommandPlan) (after : FilesSeen → RunEnd → FilesSeen) : Type 0 where
    pub looked : World F R W E
    pub missing : Bool
    pub looks : LooksIf trait names old looked missing (nat_lt 1 (length names))
    pub removes : RemovesUnless trait kind names looked new status plan after missing

  -- a run of removals took the world from `old` to `new` with this status; or it ended with the error `why`, as it needs the clock and the clock was not read
  abbrev pub RemovesWith : {X : Type 0} → (X → Bool → FileName → CommandPlan) → Result X RunError → Type 0
  RemovesWith plan (Ok x) = LooksAndRemoves (λ seen file. always (plan x (nat_lt 1 (length names)) file)) seen_after
  RemovesWith plan (Err why) = EndsBefore trait old new status why
