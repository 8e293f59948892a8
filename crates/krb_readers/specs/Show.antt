-- What show does.
use Rattle.std.specs.Prelude.{ℕ, nat_lt, List, ◌++◌, length, codes, Bool, false, ◌&&◌, if◌then◌else◌, Option, None, Some, Result, Ok}
use Rattle.krb_wire.specs.declared.format.Order.{Order}
use Rattle.krb_files.specs.declared.files.Files.{Ghosts}
use Rattle.krb_files.specs.Plan.{Ends}
use Rattle.krb_show.specs.CacheView.{cache_view}
use Rattle.krb_show.specs.KeytabView.{keytab_view}
use Rattle.krb_driver.specs.declared.command.World.{World}
use Rattle.krb_driver.specs.declared.error.RunError.TheVariants.{ClockNotRead}
use Rattle.krb_driver.specs.declared.file_name.FileName.{FileName}
use Rattle.krb_driver.specs.declared.verdict.FileKind.{FileKind}
use Rattle.krb_driver.specs.declared.verdict.FileKind.TheVariants.{Keytab, Cache}
use Rattle.krb_driver.specs.Commands.{CommandPlan, Displays, Effect, EndsBefore, opens, text}
use Rattle.krb_driver.specs.Either.{EitherState, OfKeytab, OfCache, contents_in, damage_of}
use Rattle.krb_driver.specs.FileNames.{shown_name}
use Rattle.krb_driver.specs.Spelled.{◌>>◌}
use Rattle.krb_driver.specs.Mistakes.{does_not_go_with, Matched, MistakeParts, typed, v1_order}
use Rattle.krb_driver.specs.RunErrors.{listing_verdict}
use Rattle.krb_driver.specs.Several.{RunsOver, first_round}
use Rattle.krb_readers.specs.declared.show.words.ShowOptions.{ShowOptions}
use Rattle.krb_readers.specs.Klist.{gap, printed_after}

-- what show prints of a keytab or a cache in the file of a name, at a second, by the mode of the file
abbrev pub view_of : List ℕ → ℕ → Option ℕ → EitherState → List ℕ
view_of name now mode (OfKeytab k) = keytab_view name now mode k
view_of name now mode (OfCache k) = cache_view name now mode k

-- what show prints of a file, after an empty line if another was before
abbrev pub block : ℕ → Bool → List ℕ → Option ℕ → EitherState → List ℕ
block now is_after file mode k = gap false is_after ++ view_of (shown_name file) now mode k

-- what show does with a file: it prints the file, and reports the fault of a damaged one
abbrev pub shows : ℕ → Bool → List ℕ → Option ℕ → EitherState → Effect
shows now is_after file mode k = Displays file (text (block now is_after file mode k) (listing_verdict (damage_of k)))

-- the plan of show for a file, by its mode: it is opened as a keytab or a cache, and printed
abbrev pub show_plan : Order → ℕ → Bool → FileName → Option ℕ → CommandPlan
show_plan order now is_after file mode = opens file (contents_in order) (λ k. Ends (shows now is_after file.name.now mode k))

module _ {F R W E : Type 0} (trait : Ghosts F) (order : Order) (old new : World F R W E) (status : ℕ) (names : List FileName) where
  -- a run of show at a second took the world from `old` to `new`: files were shown one after the other, and the greatest status counts
  pub record ShowsAt (now : ℕ) : Type 0 where
    pub printed : Bool
    pub over : RunsOver trait (show_plan order now) printed_after names (first_round false old) (record { world = new; state = printed; status = status })

  -- a run of show took the world from `old` to `new` with this status, at the clock's second if the clock was read
  abbrev pub ShowsAll : Option ℕ → Type 0
  ShowsAll None = EndsBefore trait old new status ClockNotRead
  ShowsAll (Some now) = ShowsAt now

-- ---- what the words ask for

-- `-k` does not go with a file
abbrev pub show_mistake : Matched → Option MistakeParts
show_mistake words =
    if words.flag (codes "keytab") && nat_lt 0 (length (words.values (codes "FILE")))
    then Some (does_not_go_with (typed words (codes "-k") (codes "--keytab")) (codes "FILE")) else None

-- what the default is: a cache unless `-k` is given
abbrev pub default_kind : Matched → FileKind
default_kind words = if words.flag (codes "keytab") then Keytab else Cache

-- what the words of show ask for, or their mistake
abbrev pub show_of : Matched → Result ShowOptions MistakeParts
show_of words = show_mistake words >> Ok (record { default = default_kind words; v1_order = v1_order words })
