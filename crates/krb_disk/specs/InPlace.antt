-- A model of a file that is saved in place: what the calls of a save do to it, also where they fail, and what a crash leaves.
use Rattle.std.specs.Prelude.{◌≡◌, ◌⊎◌, ℕ, ◌<◌, ◌≤◌, nat_lt, Bool, true, false, List, [], ◌∷◌, length, slice_get, Option}
use Rattle.krb_disk.specs.Content.{Content, Has, Writes, Cuts, CutsIf, IsPatch}
use Rattle.krb_disk.specs.Stages.{torn_to}
use Rattle.krb_disk.specs.declared.stage.PlaceStage.{PlaceStage}
use Rattle.krb_disk.specs.declared.stage.PlaceStage.TheVariants.{Untouched, Quiet, Same, Extended, Lengthened, Unlocked, Ready, Overwritten, Cut, Finished, Saved, Whole, Trimmed, Back, Left, Mixed, Torn, Refilled, Lacking, Cleared, Lost}

-- a save in place: the old bytes, the new ones, and the places from which and up to which old ones are written over
pub record PlaceSave : Type 0 where
  pub old : List ℕ
  pub new : List ℕ
  pub first : ℕ
  pub last : ℕ

-- the calls on the old file, named as the methods of `Calls` and `PlaceFile`
pub data PlaceCall : Type 0 where
  Watch : PlaceCall
  Pass : PlaceCall
  Extend : PlaceCall
  Sync : PlaceCall
  Rewatch : PlaceCall
  Recompare : PlaceCall
  Overwrite : PlaceCall
  Shorten : PlaceCall
  Settle : PlaceCall
  Confirm : PlaceCall
  Restore : PlaceCall
  Recover : PlaceCall
  ClearRoom : PlaceCall
  CutBack : PlaceCall

-- what happens to the file: it is compared, and is as it was loaded; a call does what it is to do, or fails; or another program writes to it
pub data Event : Type 0 where
  Compare : Event
  Do : PlaceCall → Event
  Fail : PlaceCall → Event
  Intrude : Event

-- a moment: the stage of the file, its bytes, those that it had since it was synced last, whether this program alone wrote to it since the comparison, and whether it was cut before its old bytes were back
pub record PlaceMoment : Type 0 where
  pub stage : PlaceStage
  pub bytes : Content
  pub earlier : List Content
  pub alone : Bool
  pub cleared : Bool

-- the file grows, or gets shorter
abbrev pub grows : PlaceSave → Bool
grows save = nat_lt (length save.old) (length save.new)

abbrev pub shrinks : PlaceSave → Bool
shrinks save = nat_lt (length save.new) (length save.old)

-- the stage at which a call is due, and those after it: if it does what it is to do, and if it fails
abbrev pub Turns : PlaceSave → PlaceCall → PlaceStage → PlaceStage → PlaceStage → Type 0
Turns save Watch s t u = (s ≡ Untouched) × (t ≡ Quiet) × (u ≡ Untouched)
Turns save Pass s t u = (s ≡ Same) × (t ≡ Ready) × (u ≡ Same) × (grows save ≡ false)
Turns save Extend s t u = (s ≡ Same) × (t ≡ Extended) × (u ≡ Whole)
Turns save Sync Extended t u = (t ≡ Lengthened) × (u ≡ Whole)
Turns save Sync Cut t u = (t ≡ Finished) × (u ≡ Torn)
Turns save Sync Refilled t u = (t ≡ Whole) × (u ≡ Lost)
Turns save Sync Trimmed t u = (t ≡ Back) × (u ≡ Left)
Turns save Rewatch s t u = (s ≡ Lengthened) × (t ≡ Unlocked) × ((u ≡ Whole) ⊎ (u ≡ Lengthened))
Turns save Recompare s t u = (s ≡ Unlocked) × (t ≡ Ready) × (u ≡ Whole)
Turns save Overwrite s t u = (s ≡ Ready) × (t ≡ Overwritten) × (u ≡ Mixed)
Turns save Shorten s t u = (s ≡ Overwritten) × (t ≡ Cut) × (u ≡ Torn)
Turns save Settle s t u = (s ≡ Ready) × (t ≡ Finished) × (u ≡ Ready) × (save.first ≡ save.last) × (shrinks save ≡ false)
Turns save Confirm s t u = (s ≡ Finished) × (t ≡ Saved) × (u ≡ Finished)
Turns save Restore Mixed t u = (t ≡ Refilled) × (u ≡ Lacking)
Turns save Restore Torn t u = (t ≡ Refilled) × (u ≡ Lacking)
Turns save Restore Cleared t u = (t ≡ Refilled) × (u ≡ Lost)
Turns save Recover s t u = (s ≡ Lacking) × (t ≡ Refilled) × (u ≡ Lacking)
Turns save ClearRoom s t u = (s ≡ Lacking) × (t ≡ Cleared) × (u ≡ Lost) × (grows save ≡ true)
Turns save CutBack s t u = (s ≡ Whole) × (t ≡ Trimmed) × (u ≡ Left)
Turns save call s t u = ⊥

-- what a call is to do at a place
abbrev pub Makes : PlaceSave → PlaceStage → PlaceCall → ℕ → Option ℕ → Option ℕ → Type 0
Makes save stage Extend = Writes save.new (length save.old) (length save.new)
Makes save stage Overwrite = Writes save.new save.first save.last
Makes save stage Shorten = CutsIf (shrinks save) (length save.new)
Makes save stage Restore = Writes save.old save.first (torn_to (length save.old) (length save.new) save.last stage)
Makes save stage Recover = λ i before after. (after ≡ before) × (i < length save.old → before ≡ slice_get save.old i)
Makes save stage ClearRoom = Cuts (length save.old)
Makes save stage CutBack = CutsIf (grows save) (length save.old)
Makes save stage call = λ i before after. after ≡ before

-- the earlier bytes since the last sync, after a call that syncs nothing: a look changes none that a crash would leave
abbrev pub still_left : PlaceCall → Content → List Content → List Content
still_left Watch bytes earlier = earlier
still_left Rewatch bytes earlier = earlier
still_left Recompare bytes earlier = earlier
still_left call bytes earlier = bytes ∷ earlier

-- and after a call that did what it is to do
abbrev pub since : PlaceCall → Content → List Content → List Content
since Sync bytes earlier = []
since call bytes earlier = still_left call bytes earlier

-- whether it was cut before its old bytes were back, after a call
abbrev pub clears : PlaceCall → Bool → Bool
clears ClearRoom cleared = true
clears call cleared = cleared

-- the file is compared, and has the old bytes, which a crash would leave
pub record Compares (save : PlaceSave) (m n : PlaceMoment) : Type 0 where
  pub due : m.stage ≡ Quiet
  pub has : Has save.old m.bytes
  pub synced : m.earlier ≡ []
  pub now : n ≡ record m { stage = Same; alone = true; cleared = false }

-- a call does what it is to do at each place
pub record Works (save : PlaceSave) (call : PlaceCall) (m n : PlaceMoment) : Type 0 where
  pub failed : PlaceStage
  pub turns : Turns save call m.stage n.stage failed
  pub makes : (i : ℕ) → Makes save m.stage call i (m.bytes i) (n.bytes i)
  pub earlier : n.earlier ≡ since call m.bytes m.earlier
  pub alone : n.alone ≡ m.alone
  pub cleared : n.cleared ≡ clears call m.cleared

-- a call fails, and did at each place what it was to do, or nothing
pub record Fails (save : PlaceSave) (call : PlaceCall) (m n : PlaceMoment) : Type 0 where
  pub done : PlaceStage
  pub turns : Turns save call m.stage done n.stage
  pub makes : (i : ℕ) → (n.bytes i ≡ m.bytes i) ⊎ Makes save m.stage call i (m.bytes i) (n.bytes i)
  pub earlier : n.earlier ≡ still_left call m.bytes m.earlier
  pub alone : n.alone ≡ m.alone
  pub cleared : n.cleared ≡ clears call m.cleared

-- another program writes what it likes
pub record Intrudes (m n : PlaceMoment) : Type 0 where
  pub now : n ≡ record m { bytes = n.bytes; earlier = n.earlier; alone = false }

-- what an event does
abbrev pub Does : PlaceSave → Event → PlaceMoment → PlaceMoment → Type 0
Does save Compare m n = Compares save m n
Does save (Do call) m n = Works save call m n
Does save (Fail call) m n = Fails save call m n
Does save Intrude m n = Intrudes m n

-- these events led to this moment, the last one first
abbrev pub Leads : PlaceSave → List Event → PlaceMoment → Type 0
Leads save [] now = (now.stage ≡ Untouched) × (now.alone ≡ false)
Leads save (event ∷ events) now = (before : PlaceMoment) × (Leads save events before × Does save event before now)

-- one of these contents has that byte there
abbrev pub OneHas : List Content → ℕ → Option ℕ → Type 0
OneHas [] i byte = ⊥
OneHas (c ∷ cs) i byte = (byte ≡ c i) ⊎ OneHas cs i byte

-- what a crash may leave: at each place a byte that the file had there since it was synced last
abbrev pub IsLeft : PlaceMoment → Content → Type 0
IsLeft m left = (i : ℕ) → OneHas (m.bytes ∷ m.earlier) i (left i)

-- each old byte is there
abbrev pub HasOld : PlaceSave → Content → Type 0
HasOld save content = (i : ℕ) → i < length save.old → content i ≡ slice_get save.old i

-- past the old end the file is as the new one
abbrev pub HasEnd : PlaceSave → Content → Type 0
HasEnd save content = (i : ℕ) → length save.old ≤ i → content i ≡ slice_get save.new i

-- whatever a crash leaves, each byte is the old or the new one of its place; of a file that grows each old byte is there, or the new end is, unless the old bytes had no room when they were written back
pub record IsSafe (save : PlaceSave) (m : PlaceMoment) (left : Content) : Type 0 where
  pub either : (i : ℕ) → (left i ≡ slice_get save.old i) ⊎ (left i ≡ slice_get save.new i)
  pub ordered : length save.old < length save.new → m.cleared ≡ false → HasOld save left ⊎ HasEnd save left
  -- until old bytes may be written over, each is there; a save that is done left the new bytes, a restoring that is done the old ones
  pub ready : m.stage ≡ Ready → HasOld save left
  pub saved : m.stage ≡ Saved → Has save.new left
  pub back : m.stage ≡ Back → Has save.old left
  pub whole : m.stage ≡ Left → HasOld save left

-- this holds after any events, and a crash, if no other program writes after the comparison
abbrev pub EachMomentInPlaceIsSafe : Type 0
EachMomentInPlaceIsSafe = (save : PlaceSave) (events : List Event) (now : PlaceMoment) (left : Content)
    → IsPatch save.old save.new save.first save.last
    → Leads save events now → now.alone ≡ true → IsLeft now left → IsSafe save now left

-- no other program writes
abbrev pub IsAlone : List Event → Type 0
IsAlone [] = Unit {0}
IsAlone (Intrude ∷ events) = ⊥
IsAlone (event ∷ events) = IsAlone events

-- the law is about runs of this program alone too: one writes over a byte, and is saved
abbrev pub SavesInPlace : Type 0
SavesInPlace = (save : PlaceSave) × (events : List Event) × (now : PlaceMoment) × IsPatch save.old save.new save.first save.last
    × (save.first < save.last) × IsAlone events × Leads save events now × (now.alone ≡ true) × (now.stage ≡ Saved)
