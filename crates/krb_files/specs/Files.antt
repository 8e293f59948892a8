-- Files as a map from names to bytes.
use Rattle.std.specs.Prelude.{◌≡◌, ◌≢◌, ◌⊎◌, ℕ, ◌-◌, ◌^◌, ◌<◌, List, length, if◌then◌else◌, nat_lt, Option, None, Some, Result, Ok, Err, Vec}
use Rattle.krb_files.specs.declared.files.LoadFault.{LoadFault}
use Rattle.krb_files.specs.declared.files.LoadFault.TheVariants.{Missing, TooLarge}
use Rattle.krb_files.specs.declared.node.Node.{Node}
use Rattle.krb_files.specs.declared.node.Node.TheVariants.{Nothing, PlainFile}

-- files: the bytes of each name, or none if there is no such file
abbrev pub FileMap : Type 0
FileMap = List ℕ → Option (List ℕ)

-- two maps of files are equal
abbrev pub SameFiles : FileMap → FileMap → Type 0
SameFiles old new = (name : List ℕ) → new name ≡ old name

-- what is under a name, by the bytes of its file, if there is one
abbrev pub node_of : Option (List ℕ) → Node
node_of None = Nothing
node_of (Some bytes) = PlainFile

-- files went from `old` to `new`: the file of a name has these bytes, and all others are as before
pub record SetsFile (old : FileMap) (name bytes : List ℕ) (new : FileMap) : Type 0 where
  pub this : new name ≡ Some bytes
  pub others : (other : List ℕ) → other ≢ name → new other ≡ old other

-- the count of failed calls rose, from `old` to `new`, if it could
abbrev pub CountsFailure : ℕ → ℕ → Type 0
CountsFailure old new = (old < new) ⊎ (old ≡ 2 ^ 64 - 1)

-- the bytes that were loaded, or why none were
abbrev pub answer_of : {A : Type 0} → Result (Vec ℕ A) LoadFault → Result (List ℕ) LoadFault
answer_of (Ok bytes) = Ok bytes.items
answer_of (Err fault) = Err fault

-- what loading a file of at most `limit` bytes gives
abbrev pub loaded : Option (List ℕ) → ℕ → Result (List ℕ) LoadFault
loaded None limit = Err Missing
loaded (Some bytes) limit = if nat_lt limit (length bytes) then Err TooLarge else Ok bytes
