-- What a held file is.
use Rattle.std.specs.Prelude.{◌≡◌, ℕ, Bool, true, false, List, Option, None, Some, Result, Ok, Err, is_ok, string_bytes}
use Rattle.std.specs.declared.fs.locks.TryLockError.{TryLockError}
use Rattle.std.specs.declared.fs.locks.TryLockError.TheVariants as try_
use Rattle.std.specs.declared.io.Error.{Error}
use Rattle.std.specs.declared.clone.Clone as clone
use Rattle.std.specs.declared.io.traits.Read as read
use Rattle.std.specs.declared.io.traits.Seek as seek
use Rattle.std.specs.declared.io.traits.Write as write
use Rattle.krb_disk.specs.declared.held.Held.{Held}
use Rattle.krb_disk.specs.declared.held.Held.TheVariants.{Replacing, InPlace}
use Rattle.krb_disk.specs.declared.looks.Found.{Found}
use Rattle.krb_disk.specs.Stages.{IsLoaded}

module _ {R F D A : Type 0} {reads : read.Ghosts F} {writes : write.Ghosts F} {seeks : seek.Ghosts F} {lists : read.Ghosts D} {clones : clone.Ghosts A} where
  -- the name that it was held by
  abbrev pub name_of : Held R F D A reads writes seeks lists clones → List ℕ
  name_of (Replacing hold) = string_bytes hold.old.target.name
  name_of (InPlace old) = string_bytes old.target.name

  -- what was loaded is what is compared before it is saved
  abbrev pub HasLoaded : Found → List ℕ → Held R F D A reads writes seeks lists clones → Type 0
  HasLoaded found bytes (Replacing hold) = IsLoaded found bytes hold.old.snapshot
  HasLoaded found bytes (InPlace old) = IsLoaded found bytes old.snapshot

  -- if a file is held, it is the one of that name
  abbrev pub IsHeldAs : {X : Type 0} → Option (List ℕ) → Option (Result (Held R F D A reads writes seeks lists clones) X) → Type 0
  IsHeldAs name (Some (Ok held)) = name ≡ Some (name_of held)
  IsHeldAs name hold = Unit {0}

-- a lock was free if the call that tried it took it; no lock that another program has counts as taken
abbrev pub was_free : Result (Unit {0}) TryLockError → Result Bool Error
was_free (Ok done) = Ok true
was_free (Err try_.WouldBlock) = Ok false
was_free (Err (try_.Error error)) = Err error

-- a file was to be held, and could be
abbrev pub is_held : {H X : Type 0} → Option (Result H X) → Bool
is_held None = false
is_held (Some hold) = is_ok hold
