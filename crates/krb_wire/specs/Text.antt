-- Appending text.
use Rattle.std.specs.Prelude.{◌≡◌, ◌<◌, ◌≤◌, ℕ, ◌+◌, List, [], ◌∷◌, ◌++◌, length, if◌then◌else◌, Bool, Vec, Result, OnOk, OnErr}
use Rattle.std.specs.Vec.{vec_len, vec_capacity}
use Rattle.std.specs.Borrow.{MutBor}
use Rattle.std.specs.List.{splice}
use Rattle.krb_wire.specs.declared.pen.Pen.{Pen}

-- what comes before a component: a `/`, but nothing before the first
abbrev pub separator : Bool → List ℕ
separator first = if first then [] else 47 ∷ []

-- bytes were appended
pub record Grew (old new : List ℕ) : Type 0 where
  pub more : List ℕ
  pub parts : new ≡ old ++ more

-- the text did not fit the free capacity
abbrev pub HadNoRoom : {A : Type 0} → Vec ℕ A → List ℕ → Type 0
HadNoRoom old text = vec_capacity old < vec_len old + length text

-- the text was appended; or an allocation failed, nothing was appended, and the text did not fit the free capacity
pub record Appended {A E : Type 0} (text : List ℕ) (old new : Vec ℕ A) (result : Result (Unit {0}) E) : Type 0 where
  pub ok : OnOk result (new.items ≡ old.items ++ text)
  pub err : OnErr result (new.items ≡ old.items)
  pub capacity : vec_capacity old ≤ vec_capacity new
  pub full : OnErr result (HadNoRoom old text)

-- the text was appended; or an allocation failed, and a part of the text may have been appended
pub record AppendedPart {A E : Type 0} (text : List ℕ) (old new : Vec ℕ A) (result : Result (Unit {0}) E) : Type 0 where
  pub ok : OnOk result (new.items ≡ old.items ++ text)
  pub err : OnErr result (Grew old.items new.items)
  pub capacity : vec_capacity old ≤ vec_capacity new
  pub full : OnErr result (HadNoRoom old text)

-- ---- what a pen writes, and where

-- a pen writes over these bytes and starts at this place
pub record IsAt (out : MutBor (List ℕ)) (at : ℕ) (pen : Pen) : Type 0 where
  pub same_bytes : pen.out.ghost_name ≡ out.ghost_name
  pub bytes : pen.out.now ≡ out.now
  pub place : pen.at ≡ at

-- there is room for a text from the pen's place on
abbrev pub HasRoom : Pen → List ℕ → Type 0
HasRoom pen text = pen.at + length text ≤ length pen.out.now

-- a text was written at the pen's place, which is now after it, and no other byte was
pub record Puts (old new : Pen) (text : List ℕ) : Type 0 where
  pub same_bytes : new.out.ghost_name ≡ old.out.ghost_name
  pub place : new.at ≡ old.at + length text
  pub within : new.at ≤ length old.out.now
  pub length : length new.out.now ≡ length old.out.now
  pub bytes : new.out.now ≡ splice old.out.now old.at new.at text
