-- What is seen of several files before anything is done with one of them.
use Rattle.std.specs.Prelude.{◌≡◌, ◌⊎◌, ◌||◌, List, [], ◌∷◌, Bool, true, false, if◌then◌else◌, None, Err}
use Rattle.krb_files.specs.declared.files.Files.{Ghosts}
use Rattle.krb_files.specs.declared.node.Node.{Node}
use Rattle.krb_files.specs.declared.node.Node.TheVariants.{Nothing, Unknown}
use Rattle.krb_files.specs.Files.{node_of}
use Rattle.krb_driver.specs.declared.command.World.{World}
use Rattle.krb_driver.specs.declared.error.RunError.{RunError}
use Rattle.krb_driver.specs.declared.error.RunError.TheVariants.{NoSuchFile, OtherType}
use Rattle.krb_driver.specs.declared.file_name.FileName.{FileName}
use Rattle.krb_driver.specs.declared.reporting.details.Details.{Details}
use Rattle.krb_driver.specs.Runs.{ErrorWatch, ReportsEnd}

-- a look at a name saw nothing there
abbrev pub is_nothing : Node → Bool
is_nothing Nothing = true
is_nothing node = false

-- a file would not be found by a load: its name has a type that is not read, or nothing is there
abbrev pub is_missing : FileName → Node → Bool
is_missing file node = file.is_other_type || is_nothing node

-- the error of a load that does not find the file
abbrev pub missing_error : FileName → RunError
missing_error file = if file.is_other_type then OtherType file.kind file.source else NoSuchFile file.source

-- a file that is missing was reported, from the error output `err` to `err'`
abbrev pub ReportsMissing : Bool → FileName → ErrorWatch → ErrorWatch → Type 0
ReportsMissing true file err err' = (details : Details) × ((details.aftermath ≡ None) × ReportsEnd file.name.now None details (Err (missing_error file)) err err')
ReportsMissing false file err err' = err' ≡ err

module _ {F : Type 0} (trait : Ghosts F) (files : F) where
  -- a file was looked at, and reported if it is missing: over honest files the look saw what is there, or could not know
  pub record LooksAt (file : FileName) (err err' : ErrorWatch) (missing : Bool) : Type 0 where
    pub node : Node
    pub sees : trait.is_honest files → (node ≡ node_of (trait.file files file.name.now)) ⊎ (node ≡ Unknown)
    pub missing_is : missing ≡ is_missing file node
    pub reports : ReportsMissing missing file err err'

  -- each of several files was looked at, one after the other, and `missing` is whether one is missing
  abbrev pub LooksFor : List FileName → ErrorWatch → ErrorWatch → Bool → Type 0
  LooksFor [] err err' missing = (err' ≡ err) × (missing ≡ false)
  LooksFor (file ∷ names) err err' missing =
      (between : ErrorWatch) × (here : Bool) × (later : Bool) × LooksAt file err between here × LooksFor names between err' later × (missing ≡ (here || later))

module _ {F R W E : Type 0} (trait : Ghosts F) (names : List FileName) (old new : World F R W E) (missing : Bool) where
  -- files `names` were looked at, if the flag is set, and nothing else was done
  abbrev pub LooksIf : Bool → Type 0
  LooksIf true = (new ≡ record old { err = new.err }) × LooksFor trait old.files names old.err new.err missing
  LooksIf false = (new ≡ old) × (missing ≡ false)
