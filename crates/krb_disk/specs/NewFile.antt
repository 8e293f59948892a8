-- The new file beside one to be saved.
use Rattle.std.specs.Prelude.{◌≡◌, ℕ, List, [], ◌∷◌, String, string_bytes, ◌++◌, codes, Option, None, Some}
use Rattle.krb_files.specs.Log.{entries_of}
use Rattle.krb_disk.specs.declared.calls.NewFile.{NewFile}
use Rattle.krb_disk.specs.declared.new_file.Attempt.{Attempt}
use Rattle.krb_disk.specs.declared.new_file.Attempt.TheVariants as attempt
use Rattle.krb_disk.specs.declared.stage.Stage.TheVariants.{Held}

-- it is held, and is the file of that name
pub record IsHeldAt {A F : Type 0} (path : List ℕ) (file : NewFile (String A) F) : Type 0 where
  pub named : string_bytes file.path ≡ path
  pub stage : file.stage ≡ Held

-- these bytes were written to it, and no others, under that name
pub record IsFilled {A F : Type 0} (path bytes : List ℕ) (file : NewFile (String A) F) : Type 0 where
  pub named : string_bytes file.path ≡ path
  pub written : entries_of file.written ≡ (path, bytes) ∷ []

-- if the new file was created and locked, it is held, and is the file of that name
abbrev pub HoldsAt : {A F : Type 0} → List ℕ → Attempt (NewFile (String A) F) → Type 0
HoldsAt path (attempt.Locked file) = IsHeldAt path file
HoldsAt path _ = Unit {0}

-- ---- the target of a save

-- the path of the new file: that of the old one, with `.krbfile` after it
abbrev pub new_path : List ℕ → List ℕ
new_path path = path ++ codes ".krbfile"

-- a folder by its path; that of a name alone is the current one
abbrev pub folder : Option (List ℕ) → List ℕ
folder None = codes "."
folder (Some []) = codes "."
folder (Some (b ∷ bs)) = b ∷ bs
