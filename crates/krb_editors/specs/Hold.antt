-- What hold does with an image, and how it is handed on.
use Rattle.std.specs.Prelude.{ℕ, ◌+◌, ◌-◌, List, ◌++◌, length, drop, take, codes, decimal, ◌==◌, if◌then◌else◌, option_and_then, option_map, Option, None, Some, ◌≡◌, nat_lt, Bool, true, false, bytes_eq, [], ◌∷◌, Result, Ok, Err, OnOk}
use Rattle.std.specs.List.{position_from}
use Rattle.krb_text.specs.Numbers.{number_in}
use Rattle.krb_walk.specs.declared.refusal.Code.TheVariants.{Damaged}
use Rattle.krb_walk.specs.Store.{fault_of}
use Rattle.krb_keytab.specs.Store.{store_of}
use Rattle.krb_ccache.specs.Store.{store_of as cache_store}
use Rattle.krb_files.specs.declared.files.LoadFault.TheVariants.{Missing}
use Rattle.krb_files.specs.declared.files.SaveFault.TheVariants.{Failed}
use Rattle.krb_files.specs.Files.{SameFiles, CountsFailure}
use Rattle.krb_files.specs.Loading.{Answer, SavesFile, TurnsHold, most_bytes}
use Rattle.krb_files.specs.Plan.{HeldIf}
use Rattle.krb_files.specs.Bytes.{Source}
use Rattle.krb_driver.specs.declared.error.RunError.TheVariants as error
use Rattle.krb_driver.specs.declared.not_opened.Expected.TheVariants as expected
use Rattle.krb_driver.specs.declared.reporting.details.Details.{Details}
use Rattle.krb_driver.specs.declared.verdict.FileKind.{FileKind}
use Rattle.krb_driver.specs.declared.verdict.FileKind.TheVariants as kind
use Rattle.krb_driver.specs.declared.verdict.Verdict.TheVariants.{Well}
use Rattle.krb_driver.specs.declared.error.RunError.{RunError}
use Rattle.krb_driver.specs.declared.file_name.FileName.{FileName}
use Rattle.krb_driver.specs.declared.command.World.{World}
use Rattle.krb_driver.specs.Commands.{Ghosts, GivesOf, can_hold}
use Rattle.krb_driver.specs.Loading.{GivesInput, opened_cache, opened_keytab, result_map, result_map_err}
use Rattle.krb_driver.specs.Mistakes.{Matched, v1_order, MistakeParts, for_keytabs}
use Rattle.krb_driver.specs.RunErrors.{Fault, LoadFault, SaveFault, Ending, input_error, load_error, save_error}
use Rattle.krb_driver.specs.Runs.{Reports, Shows}
use Rattle.krb_editors.specs.declared.hold.last_line.Outcome.TheVariants.{Saved, Left}
use Rattle.krb_editors.specs.declared.hold.words.HoldKind.{HoldKind}
use Rattle.krb_editors.specs.declared.hold.words.HoldKind.TheVariants.{Keytab, Cache}
use Rattle.krb_editors.specs.HoldEnds.{HoldEnd, TellsEnd, about_end, ending_of, last_line}

-- the most bytes that hold reads: the frame of an image of 16 MiB, with ten digits and a newline before the image
abbrev pub most_frame : ℕ
most_frame = 16777227

-- the frame of an image, as hold prints and reads it: the image's length in decimal, a newline, and the image
abbrev pub frame : List ℕ → List ℕ
frame image = decimal (length image) ++ (codes "\n" ++ image)

-- the length of the head of a frame, if the text is one whole frame and no more
abbrev pub head_len : List ℕ → Option ℕ
head_len text =
    option_and_then (λ end. option_and_then (λ len. if length text - (end + 1) == len then Some (end + 1) else None) (number_in 32 (take end text))) (position_from (λ b. b == 10) 0 text)

-- the image in a text that is one whole frame
abbrev pub framed : List ℕ → Option (List ℕ)
framed text = option_map (λ head. drop head text) (head_len text)

-- ---- the words

-- what the words of hold ask for: a keytab if `-k` is given, and otherwise a cache, with which `--v1-big` does not go
abbrev pub hold_of : Matched → Result HoldKind MistakeParts
hold_of words =
    if words.flag (codes "keytab") then Ok (Keytab (v1_order words))
    else (if words.flag (codes "v1-big") then Err (for_keytabs (codes "--v1-big")) else Ok Cache)

-- the kind of file that hold holds
abbrev pub file_kind : HoldKind → FileKind
file_kind (Keytab order) = kind.Keytab
file_kind Cache = kind.Cache

-- ---- images

-- the fault of a keytab or a cache in an image, if it has one; or why the image is none
abbrev pub fault_in : HoldKind → List ℕ → Result (Option Fault) RunError
fault_in (Keytab order) image = result_map (λ k. fault_of (store_of k)) (opened_keytab expected.Keytab order image)
fault_in Cache image = result_map (λ k. fault_of (cache_store k)) (opened_cache expected.CacheToHold image)

-- an image, or the error if its keytab or cache has a fault
abbrev pub unless_fault : (Fault → RunError) → List ℕ → Result (Option Fault) RunError → Result (List ℕ) RunError
unless_fault why image (Ok None) = Ok image
unless_fault why image (Ok (Some fault)) = Err (why fault)
unless_fault why image (Err error) = Err error

-- an image whose keytab or cache has no fault, or the error
abbrev pub whole_in : (Fault → RunError) → HoldKind → List ℕ → Result (List ℕ) RunError
whole_in why kind image = unless_fault why image (fault_in kind image)

-- the image that hold goes on with by the result of a load, or the error: of a missing keytab that is not to be saved in place an empty one
abbrev pub held_in : HoldKind → Bool → Answer → Result (List ℕ) RunError
held_in (Keytab order) false (Err Missing) = Ok (5 ∷ 2 ∷ [])
held_in kind in_place (Ok bytes) = whole_in (λ fault. error.Refused (file_kind kind) Damaged) kind bytes
held_in kind in_place (Err fault) = Err (load_error fault)

-- the image in the frame that hold was given: not too long, and a keytab or cache without a fault; or the error
abbrev pub given_by : HoldKind → Option (List ℕ) → Result (List ℕ) RunError
given_by kind None = Err error.InputNotWhole
given_by kind (Some image) = if nat_lt most_bytes (length image) then Err error.InputTooLarge else whole_in error.DamagedInput kind image

-- what hold was given by its input: nothing if the input is empty, an image, or the error
abbrev pub received : HoldKind → Result (List ℕ) LoadFault → Result (Option (List ℕ)) RunError
received kind (Ok []) = Ok None
received kind (Ok (b ∷ text)) = result_map (λ image. Some image) (given_by kind (framed (b ∷ text)))
received kind (Err fault) = Err (input_error fault)

-- ---- the run

module _ {F : Type 0} (trait : Ghosts F) where
  -- hold saw that the file is held and can be saved, as far as the hold shows, or `end` is the error; the files went from `old` to `new`
  pub record ChecksHold (file : List ℕ) (old : F) (end : Result (Unit {0}) (List ℕ × RunError)) (new : F) : Type 0 where
    pub answer : Result (Unit {0}) SaveFault
    pub end_is : end ≡ result_map_err (λ fault. (file, save_error fault)) answer
    pub had : OnOk answer (trait.is_held old ≡ true)
    pub held : trait.held new ≡ trait.held old
    pub honest : trait.is_honest old → trait.is_honest new
    pub same : SameFiles (trait.file old) (trait.file new)
    pub failed : answer ≡ Err Failed → CountsFailure (trait.failure_count old) (trait.failure_count new)

-- `given` is what hold's input gave, which was read to its end, from `reader` to `reader'`
pub record Receives (kind : HoldKind) (reader reader' : Source) (given : Result (Option (List ℕ)) RunError) : Type 0 where
  pub input : Result (List ℕ) LoadFault
  pub read : GivesInput most_frame reader reader' input
  pub given_is : given ≡ received kind input

module _ {F : Type 0} (trait : Ghosts F) (file : List ℕ) (loaded : List ℕ) (old new : F) (end : HoldEnd) where
  -- hold saved nothing, and ended as is due
  abbrev pub Leaves : HoldEnd → Type 0
  Leaves due = (new ≡ old) × (end ≡ due)

  -- an image was saved, unless it is the one that was loaded: then the file was left
  abbrev pub SavesIf : Bool → List ℕ → Type 0
  SavesIf true image = Leaves (Ok Left)
  SavesIf false image = (answer : Result (Unit {0}) SaveFault) × (SavesFile trait old file image answer new × (end ≡ result_map (λ done. Saved) (result_map_err (λ fault. (file, save_error fault)) answer)))

  -- the image that hold was given was saved; or the file was left, as no image was given
  abbrev pub SavesReceived : Result (Option (List ℕ)) RunError → Type 0
  SavesReceived (Ok None) = Leaves (Ok Left)
  SavesReceived (Ok (Some image)) = SavesIf (bytes_eq image loaded) image
  SavesReceived (Err why) = Leaves (Err (codes "input", why))

module _ {F R W E : Type 0} (trait : Ghosts F) (kind : HoldKind) (file : FileName) (new : World F R W E) (end : HoldEnd) where
  -- hold printed, read and saved nothing, and ended with this error
  abbrev pub EndsEarly : World F R W E → List ℕ × RunError → Type 0
  EndsEarly old met = (new ≡ old) × (end ≡ Err met)

  -- once the held image was printed, hold read its input and saved what it was given; or the output failed, and nothing was read
  abbrev pub AfterShown : World F R W E → List ℕ → Ending → Type 0
  AfterShown old loaded (Ok verdict) = (given : Result (Option (List ℕ)) RunError) × (Receives kind old.input new.input given × SavesReceived trait file.name.now loaded old.files new.files end given)
  AfterShown old loaded (Err why) = (new.input ≡ old.input) × Leaves trait file.name.now loaded old.files new.files end (Err (file.name.now, why))

  -- hold printed the image of the held file, read its input to the end, and saved what it was given; or the output failed
  pub record Exchanges (old : World F R W E) (loaded : List ℕ) : Type 0 where
    pub held : trait.held old.files ≡ Some file.name.now
    pub shown : Ending
    pub shows : Shows (record { out = frame loaded; ending = Ok Well }) old.out new.out shown
    pub after : AfterShown old loaded shown
    pub err : new.err ≡ old.err

  -- hold went on with the held file, or ended, by whether it saw the file held
  abbrev pub AfterCheck : World F R W E → List ℕ → Result (Unit {0}) (List ℕ × RunError) → Type 0
  AfterCheck old loaded (Ok done) = Exchanges old loaded
  AfterCheck old loaded (Err met) = EndsEarly old met

  -- hold went on with the image that was loaded, once it saw the file held; or the load's error ended it
  abbrev pub AfterLoad : World F R W E → Result (List ℕ) (List ℕ × RunError) → Type 0
  AfterLoad old (Ok loaded) = (checked : F) × ((met : Result (Unit {0}) (List ℕ × RunError)) × (ChecksHold trait file.name.now old.files met checked × AfterCheck (record old { files = checked }) loaded met))
  AfterLoad old (Err met) = EndsEarly old met

  -- hold held the file, loaded it, and went on with what it gave
  pub record EditsHeld (old : World F R W E) : Type 0 where
    pub held : F
    pub holds : HeldIf trait (can_hold true file) file.name.now old.files held
    pub loaded : F
    pub given : Result (List ℕ) (List ℕ × RunError)
    pub gives : GivesOf trait held file (held_in kind file.in_place) given loaded
    pub after : AfterLoad (record old { files = loaded }) given

-- a run of hold took the world from `old` to `new` with this status: it held a file, exchanged images, released the file, reported how it ended, and said that in a last line
pub record RunsHold {F R W E : Type 0} (trait : Ghosts F) (old new : World F R W E) (status : ℕ) (kind : HoldKind) (file : FileName) : Type 0 where
  pub done : World F R W E
  pub end : HoldEnd
  pub edits : EditsHeld trait kind file done end old
  pub left : TurnsHold trait None done.files new.files
  pub same : new ≡ record done { files = new.files; out = new.out; err = new.err }
  pub details : Details
  pub reported : Reports (about_end file.name.now end) None details (ending_of end) done.err new.err status
  pub left_behind : details.aftermath ≡ trait.aftermath new.files
  pub last : TellsEnd done.out new.out (last_line status details.cause details.aftermath end)
