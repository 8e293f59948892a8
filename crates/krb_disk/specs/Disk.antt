-- A model of a disk: what the calls of a save do to it, what other programs do, and what a crash leaves: each name and mode, and the bytes of synced files.
use Rattle.std.specs.Prelude.{◌≡◌, ◌≢◌, ℕ, Bool, true, false, List, [], ◌∷◌, Option, None, Some, IsSomeAnd, IsTrue}
use Rattle.krb_disk.specs.declared.looks.Found.{Found}
use Rattle.krb_disk.specs.declared.stage.Stage.{Stage}
use Rattle.krb_disk.specs.declared.stage.Stage.TheVariants.{Made, Locked, Agreed, Held, Written, Examined, Permitted, Ours, Same, Lost}
use Rattle.krb_disk.specs.Stages.{private_mode, IsDueMode, IsFound, IsSame, IsReady, stood, watched, synced}
use Rattle.krb_disk.specs.NewFile.{new_path}

-- a file, and whether its bytes survive a crash
pub record File : Type 0 where
  pub bytes : List ℕ
  pub mode : ℕ
  pub durable : Bool

-- the file of each name
abbrev pub Names : Type 0
Names = List ℕ → Option File

-- a save: its path, its bytes, what was seen of the old file, and which files the comparison accepts as that
pub record Save : Type 0 where
  pub path : List ℕ
  pub bytes : List ℕ
  pub old : Option Found
  pub is_snapshot : Option File → Bool

-- the calls on a new file, named as the methods of `Calls`; `Fail`, a call that failed or cleared its path; and what other programs do under the old name (`Intrude`) and elsewhere (`Pass`)
pub data Call : Type 0 where
  Make : Call
  Lock : Call
  AtPath : Call
  Double : Call
  Write : Call
  Own : Call
  Stat : Found → Call
  Permit : ℕ → Call
  Sync : Call
  Remove : Call
  Fail : Call
  Compare : Call
  Watch : Bool → Call
  Rename : Call
  Intrude : Call
  Pass : Call

-- a moment: the stage of the new file, the file of each name, what other programs put there, whether the old name has the new file, and whether it has what was compared last
pub record Moment : Type 0 where
  pub stage : Stage
  pub names : Names
  pub theirs : Names
  pub saved : Bool
  pub fresh : Bool

-- what a call that is due makes of the new file: its stage, and the file of its name
abbrev pub Turns : Save → Call → Stage → Option File → Stage → Option File → Type 0
Turns save Make s file t new = (file ≡ None) × (t ≡ Made) × (new ≡ Some (record { bytes = []; mode = private_mode; durable = false }))
Turns save Lock s file t new = (s ≡ Made) × (t ≡ Locked) × (new ≡ file)
Turns save AtPath s file t new = (t ≡ stood s) × (new ≡ file)
Turns save Double s file t new = (s ≡ Agreed) × (t ≡ Held) × (new ≡ file)
Turns save Write s (Some f) t new = (s ≡ Held) × (t ≡ Written) × (new ≡ Some (record f { bytes = save.bytes; durable = false }))
Turns save Own s file t new = (s ≡ Written) × (t ≡ Written) × (new ≡ file)
Turns save (Stat found) s file t new = (s ≡ Written) × (t ≡ Examined found) × (new ≡ file)
Turns save (Permit mode) s (Some f) t new = IsDueMode save.old s mode × (t ≡ Permitted save.old) × (new ≡ Some (record f { mode = mode; durable = false }))
Turns save Sync s (Some f) t new = (t ≡ synced s) × (new ≡ Some (record f { durable = true }))
Turns save (Watch is_quiet) s file t new = (t ≡ watched is_quiet s) × (new ≡ file)
Turns save Remove s file t new = IsFound s × (t ≡ Lost) × (new ≡ None)
Turns save Fail s file t new = t ≡ Lost
Turns save call s file t new = ⊥

-- a call on the new file alone
pub record Asks (save : Save) (call : Call) (m n : Moment) : Type 0 where
  pub turns : Turns save call m.stage (m.names (new_path save.path)) n.stage (n.names (new_path save.path))
  pub others : (name : List ℕ) → name ≢ new_path save.path → n.names name ≡ m.names name
  pub theirs : n.theirs ≡ m.theirs
  pub saved : n.saved ≡ m.saved
  pub fresh : n.fresh ≡ m.fresh

-- the old file is compared, and is as it was seen
pub record Compares (save : Save) (m n : Moment) : Type 0 where
  pub due : m.stage ≡ Ours save.old
  pub snapshot : IsTrue (save.is_snapshot (m.names save.path))
  pub now : n ≡ record m { stage = Same save.old; fresh = true }

-- the new file is renamed over the old one
pub record Renames (save : Save) (m n : Moment) : Type 0 where
  pub due : IsReady m.stage
  pub named : n.names save.path ≡ m.names (new_path save.path)
  pub others : (name : List ℕ) → name ≢ save.path → name ≢ new_path save.path → n.names name ≡ m.names name
  pub now : n ≡ record m { stage = Lost; names = n.names; saved = true; fresh = false }

-- another program replaces or removes what has the old name
pub record Intrudes (save : Save) (m n : Moment) : Type 0 where
  pub old : n.names save.path ≡ n.theirs save.path
  pub names : (name : List ℕ) → name ≢ save.path → n.names name ≡ m.names name
  pub theirs : (name : List ℕ) → name ≢ save.path → n.theirs name ≡ m.theirs name
  pub now : n ≡ record m { names = n.names; theirs = n.theirs; saved = false; fresh = false }

-- other programs do as they like under all names but the old one and that of the new file, which is locked
pub record Passes (save : Save) (m n : Moment) : Type 0 where
  pub old : n.names save.path ≡ m.names save.path
  pub new : n.names (new_path save.path) ≡ m.names (new_path save.path)
  pub theirs : n.theirs save.path ≡ m.theirs save.path
  pub others : (name : List ℕ) → name ≢ save.path → name ≢ new_path save.path → n.names name ≡ n.theirs name
  pub now : n ≡ record m { names = n.names; theirs = n.theirs }

-- what a call does
abbrev pub Does : Save → Call → Moment → Moment → Type 0
Does save Compare m n = Compares save m n
Does save Rename m n = Renames save m n
Does save Intrude m n = Intrudes save m n
Does save Pass m n = Passes save m n
Does save call m n = Asks save call m n

-- no call was made yet
pub record IsFirst (m : Moment) : Type 0 where
  pub stage : m.stage ≡ Lost
  pub names : (name : List ℕ) → m.names name ≡ m.theirs name
  pub saved : m.saved ≡ false
  pub fresh : m.fresh ≡ false

-- these calls led to this moment, the last one first
abbrev pub Happens : Save → List Call → Moment → Type 0
Happens save [] now = IsFirst now
Happens save (call ∷ calls) now = (before : Moment) × (Happens save calls before × Does save call before now)

-- what a crash may leave of the file of a name: any bytes, if they were not synced
abbrev pub IsLeft : Option File → Option File → Type 0
IsLeft None left = left ≡ None
IsLeft (Some f) left = IsSomeAnd left (λ g. (g.mode ≡ f.mode) × (f.durable ≡ true → g.bytes ≡ f.bytes))

-- the mode due to a file that replaces the one seen, by what the system reported of the new one
abbrev pub HasDueMode : Save → ℕ → Type 0
HasDueMode save mode = (stage : Stage) × IsDueMode save.old stage mode

-- the window that stays open: after the comparison and before the rename, another program changed what has the old name
abbrev pub IsInWindow : Moment → Type 0
IsInWindow m = IsSame m.stage × (m.fresh ≡ false)

-- the calls of a save, without what other programs do
abbrev pub own : List Call → List Call
own [] = []
own (Intrude ∷ calls) = own calls
own (Pass ∷ calls) = own calls
own (call ∷ calls) = call ∷ own calls

-- the last of them, in their order: no program had a lock on the old file, the new one was at its path, and the old one was compared
abbrev pub HasLooked : List Call → Type 0
HasLooked (Compare ∷ (AtPath ∷ (Watch true ∷ calls))) = Unit {0}
HasLooked _ = ⊥

-- whatever a crash leaves, the old name has what others put there or, since the rename, the whole new file with a mode due; each other name but the new file's has what others put there; outside the window a rename replaces what was seen; and it comes right after the comparison, which comes after the look at the locks
pub record IsSafe (save : Save) (calls : List Call) (m : Moment) (left : Names) : Type 0 where
  pub old : m.saved ≡ false → IsLeft (m.theirs save.path) (left save.path)
  pub whole : m.saved ≡ true → IsSomeAnd (left save.path) (λ f. (f.bytes ≡ save.bytes) × HasDueMode save f.mode)
  pub others : (name : List ℕ) → name ≢ save.path → name ≢ new_path save.path → IsLeft (m.theirs name) (left name)
  pub snapshot : IsSame m.stage → ¬ IsInWindow m → IsTrue (save.is_snapshot (m.names save.path))
  pub looked : IsSame m.stage → HasLooked (own calls)

-- this holds after any number of calls that are due, and a crash
abbrev pub EachMomentIsSafe : Type 0
EachMomentIsSafe = (save : Save) (calls : List Call) (now : Moment) (left : Names)
    → Happens save calls now → ((name : List ℕ) → IsLeft (now.names name) (left name)) → IsSafe save calls now left

-- the law is about saves that are made: one of this program alone renames its file
abbrev pub Saves : Type 0
Saves = (save : Save) × (calls : List Call) × (now : Moment) × (own calls ≡ calls) × Happens save calls now × (now.saved ≡ true)
