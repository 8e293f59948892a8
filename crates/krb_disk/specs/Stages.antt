-- What is due at each stage of a save: of a new file, and in place.
use Rattle.std.specs.Prelude.{◌≡◌, ℕ, Bool, true, false, List, [], ◌++◌, ◌==◌, Option, None, Some, ◌⊎◌, nat_lt, if◌then◌else◌}
use Rattle.krb_files.specs.declared.aftermath.Aftermath.{Aftermath}
use Rattle.krb_files.specs.declared.aftermath.Aftermath.TheVariants.{Restored, Damaged, Mixed}
use Rattle.krb_disk.specs.declared.calls.OldFile.{OldFile}
use Rattle.krb_disk.specs.declared.looks.Found.{Found}
use Rattle.krb_disk.specs.declared.snapshot.Snapshot.{Snapshot}
use Rattle.krb_disk.specs.declared.snapshot.Snapshot.TheVariants.{Nothing, File, Loaded}
use Rattle.krb_disk.specs.declared.stage.Stage.{Stage}
use Rattle.krb_disk.specs.declared.stage.Stage.TheVariants.{Locked, Agreed, Written, Examined, Permitted, Synced, Ours, Same, Quiet, Ended, Lost}
use Rattle.krb_disk.specs.Content.{WasRead}
use Rattle.krb_disk.specs.Looks.{IsPlainOrNone}
use Rattle.krb_disk.specs.Mode.{IsNewMode}
use Rattle.krb_disk.specs.declared.stage.PlaceStage.{PlaceStage}
use Rattle.krb_disk.specs.declared.stage.PlaceStage.TheVariants as place

-- the mode of a file that only its owner may use
abbrev pub private_mode : ℕ
private_mode = 0o600

-- the mode due to the new file: if it replaces a file, by the owner and the group that the system reported of the new one
abbrev pub IsDueMode : Option Found → Stage → ℕ → Type 0
IsDueMode None Written mode = mode ≡ private_mode
IsDueMode (Some old) (Examined new) mode = IsNewMode (new.owner == old.owner) (new.group == old.group) old.mode mode
IsDueMode _ _ mode = ⊥

-- the stage after it was found under its name
abbrev pub stood : Stage → Stage
stood Locked = Agreed
stood (Quiet old) = Ours old
stood _ = Ended

-- the stage after the list of locks was read
abbrev pub watched : Bool → Stage → Stage
watched true (Synced old) = Quiet old
watched false (Synced old) = Synced old
watched _ _ = Lost

-- the stage after it was synced
abbrev pub synced : Stage → Stage
synced (Permitted old) = Synced old
synced _ = Lost

-- it was just found under its name, and may be removed
abbrev pub IsFound : Stage → Type 0
IsFound Agreed = Unit {0}
IsFound (Ours old) = Unit {0}
IsFound Ended = Unit {0}
IsFound _ = ⊥

-- the old file is locked, or cannot be
abbrev pub IsGuarded : {F : Type 0} → OldFile F → Type 0
IsGuarded file = file.is_guarded ≡ true

-- what was seen of the old file
abbrev pub snapshot_file : {A : Type 0} → Snapshot A → Option Found
snapshot_file Nothing = None
snapshot_file (File found) = Some found
snapshot_file (Loaded found bytes) = Some found

-- that file was loaded, with these bytes
abbrev pub IsLoaded : {A : Type 0} → Found → List ℕ → Snapshot A → Type 0
IsLoaded file bytes (Loaded found copy) = (found ≡ file) × (copy.items ≡ bytes)
IsLoaded file bytes _ = ⊥

-- the bytes that were loaded, if any were, were read once more, with these behind them
abbrev pub WasReadAgain : {F A : Type 0} → (F → Option (List ℕ)) → Snapshot A → List ℕ → Type 0
WasReadAgain remaining (Loaded found bytes) end = WasRead remaining (λ left. left ≡ bytes.items ++ end)
WasReadAgain remaining _ end = Unit {0}

-- the old file was found as it was seen
abbrev pub IsSame : Stage → Type 0
IsSame (Same old) = Unit {0}
IsSame _ = ⊥

-- it was, and it is a plain file or missing
abbrev pub IsReady : Stage → Type 0
IsReady (Same old) = IsPlainOrNone old
IsReady _ = ⊥

-- ---- a save in place

-- the list of locks is to be read, before the old file is written to or after its new end was
abbrev pub IsToWatch : PlaceStage → Type 0
IsToWatch stage = (stage ≡ place.Untouched) ⊎ (stage ≡ place.Lengthened)

-- the stage after that
abbrev pub watched_in_place : Bool → PlaceStage → PlaceStage
watched_in_place true place.Lengthened = place.Unlocked
watched_in_place false place.Lengthened = place.Lengthened
watched_in_place true stage = place.Quiet
watched_in_place false stage = place.Untouched

-- what was added to it by then
abbrev pub added : PlaceStage → List ℕ → List ℕ
added place.Unlocked end = end
added stage end = []

-- no program had it locked just now
abbrev pub IsWatched : PlaceStage → Type 0
IsWatched stage = (stage ≡ place.Quiet) ⊎ (stage ≡ place.Unlocked)

-- the stage after it was compared
abbrev pub compared_in_place : Bool → PlaceStage → PlaceStage
compared_in_place true place.Unlocked = place.Ready
compared_in_place false place.Unlocked = place.Whole
compared_in_place true stage = place.Same
compared_in_place false stage = place.Untouched

-- the stage after both looks, if another program did not have it
abbrev pub looked : PlaceStage → PlaceStage
looked place.Lengthened = place.Ready
looked stage = place.Same

-- and if a look failed, or it was not the same
abbrev pub unlooked : PlaceStage → PlaceStage
unlooked place.Lengthened = place.Whole
unlooked stage = place.Untouched

-- it is to be synced: with its new end, or with the new bytes, or with the old ones, or with its old length
abbrev pub IsToSync : PlaceStage → Type 0
IsToSync stage = (stage ≡ place.Extended) ⊎ ((stage ≡ place.Cut) ⊎ ((stage ≡ place.Refilled) ⊎ (stage ≡ place.Trimmed)))

-- the stage after that
abbrev pub synced_in_place : PlaceStage → PlaceStage
synced_in_place place.Extended = place.Lengthened
synced_in_place place.Cut = place.Finished
synced_in_place place.Refilled = place.Whole
synced_in_place stage = place.Back

-- and if it failed
abbrev pub unsynced : PlaceStage → PlaceStage
unsynced place.Extended = place.Whole
unsynced place.Cut = place.Torn
unsynced place.Refilled = place.Lost
unsynced stage = place.Left

-- old bytes may be gone
abbrev pub IsToRestore : PlaceStage → Type 0
IsToRestore stage = (stage ≡ place.Mixed) ⊎ ((stage ≡ place.Torn) ⊎ (stage ≡ place.Cleared))

-- the place up to which they may be: past the last that was written over only if the file was to be cut
abbrev pub torn_to : ℕ → ℕ → ℕ → PlaceStage → ℕ
torn_to old new last place.Torn = if nat_lt new old then old else last
torn_to old new last stage = last

-- the stage if they were not written back
abbrev pub unrestored : PlaceStage → PlaceStage
unrestored place.Cleared = place.Lost
unrestored stage = place.Lacking

-- the stage after it was found that they are there, or not
abbrev pub recovered : Bool → PlaceStage
recovered true = place.Refilled
recovered false = place.Lacking

-- a call of the save failed
abbrev pub HasFailed : PlaceStage → Type 0
HasFailed stage = (stage ≡ place.Whole) ⊎ ((stage ≡ place.Mixed) ⊎ (stage ≡ place.Torn))

-- what a failed save left: it has its old bytes again, or they are there and perhaps more, or the new ones under no name of its own, or an old one may be gone
abbrev pub IsAftermath : PlaceStage → Option Aftermath → Type 0
IsAftermath place.Finished aftermath = aftermath ≡ None
IsAftermath place.Back aftermath = (aftermath ≡ None) ⊎ (aftermath ≡ Some Restored)
IsAftermath place.Left aftermath = (aftermath ≡ None) ⊎ (aftermath ≡ Some Mixed)
IsAftermath stage aftermath = aftermath ≡ Some Damaged
