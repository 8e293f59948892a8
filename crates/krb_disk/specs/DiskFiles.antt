-- What a load and a save of a file on disk may return.
use Rattle.std.specs.Prelude.{◌≡◌, ◌==◌, ℕ, ◌≤◌, ◌%◌, bit_and, if◌then◌else◌, Bool, true, false, List, ◌∷◌, length, Option, None, Some, IsSome, IsTrue, Result, Ok, Err}
use Rattle.krb_files.specs.declared.aftermath.Aftermath.{Aftermath}
use Rattle.krb_files.specs.declared.cause.Cause.{Cause}
use Rattle.krb_files.specs.declared.cause.Cause.TheVariants.{IsADirectory, NotAPlainFile}
use Rattle.krb_files.specs.declared.files.LoadFault.{LoadFault}
use Rattle.krb_files.specs.declared.files.LoadFault.TheVariants as load
use Rattle.krb_files.specs.declared.files.SaveFault.{SaveFault}
use Rattle.krb_files.specs.declared.files.SaveFault.TheVariants as save
use Rattle.krb_files.specs.declared.node.Node.{Node}
use Rattle.krb_files.specs.declared.node.Node.TheVariants.{Folder, Other}
use Rattle.krb_files.specs.Files.{CountsFailure}
use Rattle.krb_disk.specs.Aftermaths.{IsDone, IsUndone}
use Rattle.krb_disk.specs.declared.fault.DiskFault.{DiskFault}
use Rattle.krb_disk.specs.declared.fault.DiskFault.TheVariants as disk
use Rattle.krb_disk.specs.declared.fault.ReadFault.{ReadFault}
use Rattle.krb_disk.specs.declared.fault.ReadFault.TheVariants as read
use Rattle.krb_disk.specs.declared.looks.Found.{Found}
use Rattle.krb_disk.specs.declared.old.Way.{Way}
use Rattle.krb_disk.specs.declared.old.Way.TheVariants.{Replace, InPlace}

-- what contracts see of the files on a disk: how many calls failed, the cause of the last failure, the names and bytes of the saves that made all their calls, the last first, the permission bits of the file loaded last, the name of the one to be held and whether that could be held, whether only plain files are loaded, whether files are saved in place, and what the last save left behind
pub record Disk : Type 0 where
  pub failures : ℕ
  pub cause : Option Cause
  pub saved : List (List ℕ × List ℕ)
  pub mode : Option ℕ
  pub held : Option (List ℕ)
  pub is_held : Bool
  pub only_plain : Bool
  pub in_place : Bool
  pub aftermath : Option Aftermath

-- no file is held any more
abbrev pub left : Disk → Disk
left disk = record disk { held = None; is_held = false }

-- files are saved in place
abbrev pub is_in_place : Way → Bool
is_in_place InPlace = true
is_in_place Replace = false

-- the permission bits of a plain file
abbrev pub permissions : Found → Option ℕ
permissions found = if bit_and found.mode 0o170000 == 0o100000 then Some (found.mode % 0o10000) else None

-- why what lies under a name is not loaded, if only plain files are
abbrev pub refused_others : Node → Result (Unit {0}) ReadFault
refused_others Folder = Err (read.Disk (disk.Failed IsADirectory))
refused_others Other = Err (read.Disk (disk.Failed NotAPlainFile))
refused_others _ = Ok tt

-- a failed call is counted and its cause is known; no save was completed, and the hold and the settings stay
pub record Fails (old new : Disk) : Type 0 where
  pub counted : CountsFailure old.failures new.failures
  pub has_cause : IsSome new.cause
  pub same : new ≡ record old { failures = new.failures; cause = new.cause; mode = new.mode; aftermath = new.aftermath }

-- a load that returns no bytes counts the failed call, if there was one, and changes nothing else
abbrev pub CountsLoad : Disk → ReadFault → Disk → Type 0
CountsLoad old (read.Disk (disk.Failed cause)) new = Fails old new × (new.mode ≡ old.mode) × (old.failures ≤ new.failures) × (new.aftermath ≡ old.aftermath)
CountsLoad old _ new = new ≡ old

-- a save that was not made counts the failed call, if there was one, and changes nothing else
abbrev pub CountsSave : Disk → DiskFault → Disk → Type 0
CountsSave old (disk.Failed cause) new = Fails old new × (new.mode ≡ old.mode) × (old.failures ≤ new.failures) × (new.aftermath ≡ old.aftermath)
CountsSave old disk.NoMemory new = new ≡ old

-- a load from a disk returns at most `limit` bytes, of a plain file if only those are loaded; if it returns none, no mode is known; if it does not fail, nothing but the mode changes
abbrev pub AnswersFromDisk : Disk → Disk → ℕ → Result (List ℕ) LoadFault → Type 0
AnswersFromDisk old new limit (Ok bytes) = (length bytes ≤ limit) × (new ≡ record old { mode = new.mode }) × (IsTrue old.only_plain → IsSome new.mode)
AnswersFromDisk old new limit (Err load.Failed) = Fails old new × (new.mode ≡ None) × (new.aftermath ≡ old.aftermath)
AnswersFromDisk old new limit (Err fault) = new ≡ record old { mode = None }

-- a save to a disk that returns Ok made all calls of one save of these bytes under that name, and any other those of none; the known mode stays
abbrev pub SavesToDisk : Disk → List ℕ → List ℕ → Disk → Result (Unit {0}) SaveFault → Type 0
SavesToDisk old name bytes new (Ok done) = (new ≡ record old { saved = (name, bytes) ∷ old.saved; aftermath = new.aftermath }) × IsDone new.aftermath
SavesToDisk old name bytes new (Err save.Failed) = Fails old new × (new.mode ≡ old.mode) × IsUndone new.aftermath
SavesToDisk old name bytes new (Err save.NoMemory) = new ≡ record old { aftermath = None }
