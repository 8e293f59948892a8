-- The bytes of a file that is written in place.
use Rattle.std.specs.Prelude.{◌≡◌, ◌≢◌, ℕ, ◌<◌, ◌≤◌, ◌-◌, ◌++◌, Bool, true, false, List, length, slice_get, Option, None, Some, IfSome}

-- the byte at each place of a file, none past its end
abbrev pub Content : Type 0
Content = ℕ → Option ℕ

-- the file has these bytes
abbrev pub Has : List ℕ → Content → Type 0
Has bytes content = (i : ℕ) → content i ≡ slice_get bytes i

-- a file was read that had such bytes left to read, if what it had is known
abbrev pub WasRead : {F : Type 0} → (F → Option (List ℕ)) → (List ℕ → Type 0) → Type 0
WasRead {F} remaining Holds = (file : F) × IfSome (remaining file) Holds

-- these bytes, and others behind them or none
abbrev pub Begins : List ℕ → List ℕ → Type 0
Begins bytes all = (others : List ℕ) × (all ≡ bytes ++ others)

-- what a write of the bytes of an image from one place to another does at a place: before and after
pub record Writes (image : List ℕ) (from to i : ℕ) (before after : Option ℕ) : Type 0 where
  pub within : from ≤ i → i < to → after ≡ slice_get image i
  pub front : i < from → after ≡ before
  pub back : to ≤ i → after ≡ before

-- what a cut to a length does at a place
pub record Cuts (len i : ℕ) (before after : Option ℕ) : Type 0 where
  pub kept : i < len → after ≡ before
  pub gone : len ≤ i → after ≡ None

-- what a cut to a length does at a place, if the file is to be cut
abbrev pub CutsIf : Bool → ℕ → ℕ → Option ℕ → Option ℕ → Type 0
CutsIf true len i before after = Cuts len i before after
CutsIf false len i before after = after ≡ before

-- this happened at each place of a file whose bytes are known
abbrev pub AtEach : (ℕ → Option ℕ → Option ℕ → Type 0) → Option Content → Option Content → Type 0
AtEach Happens None new = Unit {0}
AtEach Happens (Some old) None = ⊥
AtEach Happens (Some old) (Some new) = (i : ℕ) → Happens i (old i) (new i)

-- the places that a save in place writes over: from the first byte that differs to the last one that does, among those that both files have; if none does, none
pub record IsPatch (old new : List ℕ) (first last : ℕ) : Type 0 where
  pub order : first ≤ last
  pub in_old : last ≤ length old
  pub in_new : last ≤ length new
  pub front : (i : ℕ) → i < first → slice_get old i ≡ slice_get new i
  pub back : (i : ℕ) → last ≤ i → i < length old → i < length new → slice_get old i ≡ slice_get new i
  pub begins : first < last → slice_get old first ≢ slice_get new first
  pub ends : first < last → slice_get old (last - 1) ≢ slice_get new (last - 1)

-- the file has the old bytes, and past their end those of the new ones
abbrev pub HasBoth : List ℕ → List ℕ → Content → Type 0
HasBoth old new content = (i : ℕ) → (i < length old → content i ≡ slice_get old i) × (length old ≤ i → content i ≡ slice_get new i)

-- a file whose bytes are known and were both has the new ones now
abbrev pub Replaces : List ℕ → List ℕ → Option Content → Option Content → Type 0
Replaces old new None after = Unit {0}
Replaces old new (Some before) None = ⊥
Replaces old new (Some before) (Some after) = HasBoth old new before → Has new after

-- a file whose bytes are known and were these has those now
abbrev pub TurnsInto : List ℕ → List ℕ → Option Content → Option Content → Type 0
TurnsInto old new None after = Unit {0}
TurnsInto old new (Some before) None = ⊥
TurnsInto old new (Some before) (Some after) = Has old before → Has new after
