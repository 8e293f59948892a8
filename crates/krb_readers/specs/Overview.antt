-- What `klist -l` does.
use Rattle.std.specs.Prelude.{◌≡◌, ◌⊎◌, ◌<◌, ◌-◌, ◌^◌, ℕ, min, List, [], ◌++◌, length, drop, filter, codes, Bool, not, if◌then◌else◌, Option, None, Some, Result, Ok}
use Rattle.std.specs.Option.{option_or}
use Rattle.krb_wire.specs.Names.{name_text}
use Rattle.krb_ccache.specs.Store.{CacheState, placed_credentials}
use Rattle.krb_audit.specs.GoingOn.{is_ticket}
use Rattle.krb_files.specs.declared.files.Files.{Ghosts}
use Rattle.krb_files.specs.Plan.{Ends}
use Rattle.krb_json.specs.declared.summary.CacheSummary.{CacheSummary}
use Rattle.krb_json.specs.Summary.{summary_text}
use Rattle.krb_driver.specs.declared.command.World.{World}
use Rattle.krb_driver.specs.declared.error.RunError.TheVariants.{ClockNotRead}
use Rattle.krb_driver.specs.declared.file_name.FileName.{FileName}
use Rattle.krb_driver.specs.declared.verdict.Verdict.TheVariants.{Well}
use Rattle.krb_driver.specs.Commands.{CommandPlan, Displays, Effect, EndsBefore, Prints, always, opens, text}
use Rattle.krb_driver.specs.FileNames.{shown_name}
use Rattle.krb_driver.specs.Loading.{cache_of}
use Rattle.krb_driver.specs.Mistakes.{Matched, MistakeParts, typed}
use Rattle.krb_driver.specs.Spelled.{◌>>◌}
use Rattle.krb_driver.specs.Several.{RunsOver, first_round}
use Rattle.krb_readers.specs.Klist.{apart, has_ticket, last_end, odd_columns, odd_seconds}

-- the heading of `klist -l`; JSON has none
abbrev pub heading : Bool → List ℕ
heading json =
    if json then [] else codes "Principal name                 Cache name\n--------------                 ----------\n"

-- a text, and blanks up to 30 bytes
abbrev pub padded : List ℕ → List ℕ
padded text = text ++ drop (length text) (codes "                              ")

-- what the JSON of `klist -l` has of a cache at a second: how many tickets it has (up to 2 ^ 64 - 1), when they end, and whether they have
abbrev pub summary_of : ℕ → CacheState → CacheSummary
summary_of now k = record {
  tickets = min (2 ^ 64 - 1) (length (filter is_ticket (placed_credentials k)));
  endtime = last_end k;
  is_expired = not (has_ticket now k);
}

-- the line of `klist -l` for a cache at a second: its default principal, its file, and whether its tickets have ended; or its JSON
abbrev pub overview_text : Bool → ℕ → List ℕ → CacheState → List ℕ
overview_text json now file k =
    if json then summary_text file k.principal (summary_of now k)
    else padded (name_text k.principal) ++ (codes " FILE:" ++ (shown_name file ++ ((if has_ticket now k then [] else codes " (Expired)") ++ codes "\n")))

-- what `klist -l` prints of a cache; its fault is not reported
abbrev pub surveys : Bool → ℕ → List ℕ → CacheState → Effect
surveys json now file k = Displays file (text (overview_text json now file k) Well)

-- the plan of `klist -l` for a file: it is opened as a cache, and its line is printed
abbrev pub overview_plan : Bool → ℕ → FileName → CommandPlan
overview_plan json now file = opens file cache_of (λ k. Ends (surveys json now file.name.now k))

module _ {F R W E : Type 0} (trait : Ghosts F) (json : Bool) (names : List FileName) (old new : World F R W E) (status : ℕ) where
  -- after the heading `klist -l` printed a line for each file, if the clock was read
  abbrev pub SurveysAt : Option ℕ → Type 0
  SurveysAt None = EndsBefore trait old new status ClockNotRead
  SurveysAt (Some now) = RunsOver trait (λ state file. always (overview_plan json now file)) (λ state end. state) names (first_round (tt {0}) old) (record { world = new; state = tt {0}; status = status })

module _ {F R W E : Type 0} (trait : Ghosts F) (json : Bool) (now : Option ℕ) (old new : World F R W E) (status : ℕ) (names : List FileName) where
  -- a run of `klist -l` took the world from `old` to `new` with this status: the heading was printed, and then a line for each file, unless the output failed
  pub record SurveysAll : Type 0 where
    pub between : World F R W E
    pub head : ℕ
    pub heads : Prints trait old between head (record { out = heading json; ending = Ok Well })
    pub lines : ((0 < head) × (new ≡ between) × (status ≡ head)) ⊎ ((head ≡ 0) × SurveysAt trait json names between new status now)

-- ---- what the words ask for

-- `-l` as it was typed
abbrev pub list : Matched → List ℕ
list words = typed words (codes "-l") (codes "--list")

-- the first option that does not go with `-l`
abbrev pub odd_with_list : Matched → Option MistakeParts
odd_with_list words =
    option_or (apart words (list words) (codes "keytab") (codes "-k") (codes "--keytab"))
    (option_or (apart words (list words) (codes "silent") (codes "-s") (codes "--silent"))
    (option_or (odd_columns words (list words))
    (option_or (apart words (list words) (codes "times") (codes "-t") (codes "--times"))
    (option_or (apart words (list words) (codes "keys") (codes "-K") (codes "--keys"))
    (apart words (list words) (codes "v1-big") (codes "--v1-big") (codes "--v1-big"))))))

-- whether the words of `klist -l` ask for JSON, or their first mistake
abbrev pub overview_of : Matched → Result Bool MistakeParts
overview_of words = do
  odd_seconds words
  odd_with_list words
  Ok (words.flag (codes "json"))
