-- What a save leaves behind.
use Rattle.std.specs.Prelude.{◌≡◌, ◌⊎◌, Option, None, Some}
use Rattle.krb_files.specs.declared.aftermath.Aftermath.{Aftermath}
use Rattle.krb_files.specs.declared.aftermath.Aftermath.TheVariants.{Restored, Damaged, LostChange, Mixed}
use Rattle.krb_disk.specs.declared.fault.DiskFault.TheVariants.{NoMemory, Failed}
use Rattle.krb_disk.specs.declared.fault.Unsaved.{Unsaved}
use Rattle.krb_files.specs.declared.files.LoadFault.{LoadFault}
use Rattle.krb_files.specs.declared.files.LoadFault.TheVariants as load
use Rattle.krb_files.specs.declared.files.SaveFault.{SaveFault}
use Rattle.krb_files.specs.declared.files.SaveFault.TheVariants as save
use Rattle.krb_disk.specs.declared.fault.DiskFault.{DiskFault}
use Rattle.krb_disk.specs.declared.fault.ReadFault.{ReadFault}
use Rattle.krb_disk.specs.declared.fault.ReadFault.TheVariants.{Missing, TooLarge, Disk}

-- a save that was made: nothing, or another program wrote meanwhile, whose change was lost or, in place, mixed with this one
abbrev pub IsDone : Option Aftermath → Type 0
IsDone aftermath = (aftermath ≡ None) ⊎ ((aftermath ≡ Some LostChange) ⊎ (aftermath ≡ Some Mixed))

-- one that was not made: nothing, or after a failure in place the old bytes, a damaged file, or what another program wrote meanwhile
abbrev pub IsUndone : Option Aftermath → Type 0
IsUndone aftermath = (aftermath ≡ None) ⊎ ((aftermath ≡ Some Restored) ⊎ ((aftermath ≡ Some Damaged) ⊎ (aftermath ≡ Some Mixed)))

-- nothing if it ran out of memory
pub record IsRefused (unsaved : Unsaved) : Type 0 where
  pub undone : IsUndone unsaved.aftermath
  pub spent : unsaved.why ≡ NoMemory → unsaved.aftermath ≡ None

-- ---- the errors that a load and a save return if a file was not read or written

-- the error of a load: `Missing` only if the open found no file
abbrev pub load_fault : ReadFault → LoadFault
load_fault Missing = load.Missing
load_fault TooLarge = load.TooLarge
load_fault (Disk NoMemory) = load.NoMemory
load_fault (Disk (Failed cause)) = load.Failed

-- the error of a save: `NoMemory` only if an allocation of the program itself failed
abbrev pub save_fault : DiskFault → SaveFault
save_fault NoMemory = save.NoMemory
save_fault (Failed cause) = save.Failed
