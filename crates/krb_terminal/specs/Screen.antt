-- What a screen before a terminal sends to its writer.
use Rattle.std.specs.Prelude.{◌≡◌, ℕ, List, [], ◌++◌, Bool, true, false, Option, None}
use Rattle.std.specs.Io.KnownBytes.{Keeps, append_known}
use Rattle.krb_wire.specs.Controls.{escaped}
use Rattle.krb_wire.specs.declared.controls.Style.TheVariants.{Terminal}
use Rattle.krb_files.specs.Bytes.{AppendsPrefix}

-- what the writer holds, if known, whether the screen escapes, and whether it holds back a c2
pub record Shown : Type 0 where
  pub contents : Option (List ℕ)
  pub escapes : Bool
  pub holds : Bool

-- what is still sent if a text comes, and then the end
abbrev pub to_send : Bool → Bool → List ℕ → List ℕ
to_send true holds text = escaped Terminal holds text
to_send false holds text = text

-- what the writer holds after that
abbrev pub finished : Shown → List ℕ → Option (List ℕ)
finished screen text = append_known screen.contents (to_send screen.escapes screen.holds text)

-- what the writer holds, if the screen passes all on as it is
abbrev pub passed : Shown → Option (List ℕ)
passed screen = passed_by screen.escapes screen.contents where
  passed_by : Bool → Option (List ℕ) → Option (List ℕ)
  passed_by true contents = None
  passed_by false contents = contents

-- the screen took these bytes: whatever comes after them, the writer will hold what one text of both makes
pub record Takes (old new : Shown) (bytes : List ℕ) : Type 0 where
  pub escapes : new.escapes ≡ old.escapes
  pub sends : (rest : List ℕ) → Keeps (finished old (bytes ++ rest)) (finished new rest)

-- the writer failed: it took a prefix of what these bytes and the end make, and the end sends no more
pub record Fails (old new : Shown) (bytes : List ℕ) : Type 0 where
  pub escapes : new.escapes ≡ old.escapes
  pub sends : AppendsPrefix old.contents new.contents (to_send old.escapes old.holds bytes)
  pub ends : Keeps (finished new []) new.contents
