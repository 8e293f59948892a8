-- What klist does, and `klist -s`.
use Rattle.std.specs.Prelude.{ℕ, ◌-◌, ◌^◌, List, length, filter, max, min, Bool, true, not, ◌&&◌, nat_lt, if◌then◌else◌, codes, Option, None, Some, ◌≡◌, ◌⊎◌, ◌+◌, [], ◌∷◌, ◌++◌, false, unwrap_or, Result, Ok, Err, is_ok, ◌||◌}
use Rattle.std.specs.List.{list_any}
use Rattle.std.specs.Option.{option_or}
use Rattle.krb_wire.specs.declared.format.Order.{Order}
use Rattle.krb_walk.specs.Store.{fault_of}
use Rattle.krb_walk.specs.declared.fault.Fault.{Fault}
use Rattle.krb_driver.specs.declared.verdict.Verdict.{Verdict}
use Rattle.krb_keytab.specs.Store.{KeytabState, store_of}
use Rattle.krb_ccache.specs.Store.{CacheState, store_of as cache_store, PlacedCredential, open_result}
use Rattle.krb_files.specs.Plan.{Ends}
use Rattle.krb_audit.specs.GoingOn.{is_tgt, is_ticket, looked_at}
use Rattle.krb_json.specs.Cache.{cache_json_text}
use Rattle.krb_json.specs.Keytab.{keytab_json_text}
use Rattle.krb_keytab_text.specs.declared.columns.KtColumns.{KtColumns}
use Rattle.krb_keytab_text.specs.Listing.{list_text}
use Rattle.krb_cache_text.specs.declared.columns.CcColumns.{CcColumns}
use Rattle.krb_cache_text.specs.Listing.{cache_text}
use Rattle.krb_readers.specs.declared.klist.words.KlistOptions.{KlistOptions}
use Rattle.krb_readers.specs.declared.klist.words.ListKind.{ListKind}
use Rattle.krb_readers.specs.declared.klist.words.ListKind.TheVariants.{Keytab, Cache}
use Rattle.krb_readers.specs.declared.klist.Listing.{Listing}
use Rattle.krb_readers.specs.declared.klist.Listed.{Listed}
use Rattle.krb_readers.specs.declared.klist.Listed.TheVariants as listed
use Rattle.krb_driver.specs.declared.file_name.FileName.{FileName}
use Rattle.krb_driver.specs.declared.verdict.FileKind.{FileKind}
use Rattle.krb_driver.specs.declared.verdict.FileKind.TheVariants as file
use Rattle.krb_driver.specs.Commands.{CommandPlan, Displays, Page, always, opens}
use Rattle.krb_driver.specs.Loading.{cache_of, listed_in}
use Rattle.krb_driver.specs.Mistakes.{Matched, twice, typed, v1_order, MistakeParts, does_not_go_with, for_keytabs, only_with, takes_one_file, first_value}
use Rattle.krb_driver.specs.Spelled.{◌>>=◌, ◌>>◌, spelled_seconds}
use Rattle.krb_driver.specs.RunErrors.{listing_verdict}
use Rattle.krb_driver.specs.Several.{RunsOver, first_round}
use Rattle.krb_driver.specs.declared.command.RunEnd.{RunEnd}
use Rattle.krb_driver.specs.declared.command.World.{World}
use Rattle.krb_ccache.specs.declared.open.CcOpenFault.{CcOpenFault}
use Rattle.krb_files.specs.declared.files.Files.{Ghosts}
use Rattle.krb_files.specs.declared.files.LoadFault.TheVariants as load
use Rattle.krb_files.specs.Loading.{Answer, LoadsFile, most_bytes}
use Rattle.krb_readers.specs.declared.klist.ticket_check.TicketCheck.{TicketCheck}
use Rattle.krb_readers.specs.declared.klist.ticket_check.SeenTickets.{SeenTickets as Seen}

-- the empty line before a listing, after another listing; JSON has none
abbrev pub gap : Bool → Bool → List ℕ
gap json is_after = if json then [] else (if is_after then codes "\n" else [])

-- what klist prints of a keytab: a line of JSON, or its listing
abbrev pub keytab_shown : Bool → KtColumns → List ℕ → KeytabState → List ℕ
keytab_shown json columns file k = if json then keytab_json_text file columns.keys k else list_text columns file k

-- what klist prints of a cache: a line of JSON, or its listing
abbrev pub cache_shown : Bool → CcColumns → List ℕ → CacheState → List ℕ
cache_shown json columns file k = if json then cache_json_text file k else cache_text columns file k

-- what klist prints of a file, after an empty line if another listing was before; the end reports the fault of a damaged file
abbrev pub page : Bool → Bool → List ℕ → Option Fault → Page
page json is_after shown fault = record { out = gap json is_after ++ shown; ending = Ok (listing_verdict fault); takes = true }

-- the plan of klist for a file: it is opened as a keytab or a cache, and its listing is printed
abbrev pub listing_plan : ListKind → Bool → Order → Bool → FileName → CommandPlan
listing_plan (Keytab columns) json order is_after file =
    opens file (listed_in order) (λ k. Ends (Displays file.name.now (page json is_after (keytab_shown json columns file.name.now k) (fault_of (store_of k)))))
listing_plan (Cache columns) json order is_after file =
    opens file cache_of (λ k. Ends (Displays file.name.now (page json is_after (cache_shown json columns file.name.now k) (fault_of (cache_store k)))))

-- the plan of klist for a file, by its options
abbrev pub klist_plan : KlistOptions → Bool → FileName → CommandPlan
klist_plan o is_after file = listing_plan o.kind o.json o.v1_order is_after file

-- klist has printed a listing, of the file whose run has just ended or of one before
abbrev pub printed_after : Bool → RunEnd → Bool
printed_after printed end = is_ok end.ending || printed

-- a run of klist over files `names` took the world from `old` to `new` with this status: the files were listed one after the other, and the greatest status counts
pub record ListsAll {F R W E : Type 0} (trait : Ghosts F) (o : KlistOptions) (old new : World F R W E) (status : ℕ) (names : List FileName) : Type 0 where
  pub printed : Bool
  pub over : RunsOver trait (λ is_after file. always (klist_plan o is_after file)) printed_after names (first_round false old) (record { world = new; state = printed; status = status })

-- ---- the page, in code

-- what is printed of a file that was opened, and its fault
abbrev pub listed_text : {A : Type 0} → Bool → List ℕ → Listed A → List ℕ
listed_text json file (listed.Keytab columns keytab) = keytab_shown json columns file keytab.state
listed_text json file (listed.Cache columns cache) = cache_shown json columns file cache.state

abbrev pub listed_fault : {A : Type 0} → Listed A → Option Fault
listed_fault (listed.Keytab columns keytab) = fault_of (store_of keytab.state)
listed_fault (listed.Cache columns cache) = fault_of (cache_store cache.state)

abbrev pub listed_verdict : {A : Type 0} → Listed A → Verdict
listed_verdict of = listing_verdict (listed_fault of)

abbrev pub page_of : {A : Type 0} → Bool → Bool → List ℕ → Listed A → Page
page_of json is_after file of = page json is_after (listed_text json file of) (listed_fault of)

abbrev pub listing_page : {A : Type 0} → Listing A → List ℕ → Page
listing_page l file = page_of l.json l.is_after file l.of

-- ---- what the words ask for

-- an option that is given does not go with another one, both as they were typed
abbrev pub apart : Matched → List ℕ → List ℕ → List ℕ → List ℕ → Option MistakeParts
apart words own name letter long = if words.flag name then Some (does_not_go_with own (typed words letter long)) else None

-- an option does not go with `-k`, both as they were typed
abbrev pub not_with_keytab : Matched → List ℕ → List ℕ → MistakeParts
not_with_keytab words letter name = does_not_go_with (typed words letter name) (typed words (codes "-k") (codes "--keytab"))

-- the first option that goes only with `-k`
abbrev pub odd_with_cache : Matched → Option MistakeParts
odd_with_cache words =
    if words.flag (codes "times") then Some (for_keytabs (typed words (codes "-t") (codes "--times")))
    else (if words.flag (codes "keys") then Some (for_keytabs (typed words (codes "-K") (codes "--keys")))
    else (if words.flag (codes "v1-big") then Some (for_keytabs (codes "--v1-big"))
    else None))

-- the first option that is for the other kind of file, if there is one
abbrev pub odd_option : Matched → Option MistakeParts
odd_option words =
    if not (words.flag (codes "keytab")) then odd_with_cache words
    else (if words.flag (codes "cache") then Some (not_with_keytab words (codes "-c") (codes "--cache"))
    else (if words.flag (codes "flags") then Some (not_with_keytab words (codes "-f") (codes "--flags"))
    else (if words.flag (codes "config") then Some (not_with_keytab words (codes "-C") (codes "--config"))
    else None)))

-- `--for` is given twice, or without `-s`
abbrev pub odd_seconds : Matched → Option MistakeParts
odd_seconds words =
    option_or (twice words (codes "for") (codes "--for") (codes "--for"))
    (if nat_lt 0 (length (words.values (codes "for"))) && not (words.flag (codes "silent")) then Some (only_with (codes "--for") (codes "-s")) else None)

-- the kind of file, a cache unless `-k` is given, and the columns, each selected by its own option
abbrev pub list_kind : Matched → ListKind
list_kind words =
    if words.flag (codes "keytab")
    then Keytab (record { times = words.flag (codes "times"); etypes = words.flag (codes "enctypes"); keys = words.flag (codes "keys") })
    else Cache (record { flags = words.flag (codes "flags"); etypes = words.flag (codes "enctypes"); configs = words.flag (codes "config") })

-- the kind of file that is listed
abbrev pub file_kind : ListKind → FileKind
file_kind (Keytab columns) = file.Keytab
file_kind (Cache columns) = file.Cache

-- what the words of klist ask for if it lists files, or their first mistake
abbrev pub listing_of : Matched → Result KlistOptions MistakeParts
listing_of words = do
  odd_seconds words
  odd_option words
  Ok (record { kind = list_kind words; v1_order = v1_order words; json = words.flag (codes "json") })

-- ---- what `klist -s` does: whether a cache has a ticket to go on with

-- the later of two times, or the only one
abbrev pub later : Option ℕ → Option ℕ → Option ℕ
later None other = other
later (Some time) None = Some time
later (Some time) (Some other) = Some (max time other)

-- the latest end of tickets
abbrev pub latest : List PlacedCredential → Option ℕ
latest [] = None
latest (x ∷ xs) = later (Some x.1.times.endtime) (latest xs)

-- when the tickets of a cache end: the latest end of those by which it is judged
abbrev pub last_end : CacheState → Option ℕ
last_end k = latest (looked_at k)

-- a ticket is valid after a second
abbrev pub is_valid_after : ℕ → PlacedCredential → Bool
is_valid_after time x = nat_lt time x.1.times.endtime

-- a cache has a ticket that is valid after a second, among those by which it is judged
abbrev pub has_ticket : ℕ → CacheState → Bool
has_ticket time k = list_any (is_valid_after time) (looked_at k)

-- ---- the run

-- the status of `klist -s` for an image: 0 if it is a cache with a ticket that is valid after a second, and otherwise 1
abbrev pub opened_status : ℕ → Result CacheState CcOpenFault → ℕ
opened_status time (Ok k) = if has_ticket time k then 0 else 1
opened_status time (Err fault) = 1

-- the status of `klist -s` by the result of loading the file
abbrev pub check_status : ℕ → Answer → ℕ
check_status time (Ok image) = opened_status time (open_result most_bytes image)
check_status time (Err load.NoMemory) = 4
check_status time (Err load.Failed) = 3
check_status time (Err fault) = 1

module _ {F : Type 0} (trait : Ghosts F) (file : FileName) (old new : F) (status : ℕ) where
  -- `klist -s` loaded the file from the files `old`, which left `new`, and the status is by the result of the load
  pub record LoadsAndChecks (time : ℕ) : Type 0 where
    pub answer : Answer
    pub loads : LoadsFile trait old file.name.now answer new
    pub status_is : status ≡ check_status time answer

  -- a run of `klist -s` at a second of the clock took the files from `old` to `new` with this status; if the clock was not read nothing is loaded
  abbrev pub RunsTicketCheck : TicketCheck → Option ℕ → Type 0
  RunsTicketCheck check None = (new ≡ old) × (status ≡ 3)
  RunsTicketCheck check (Some now) = ((file.is_other_type ≡ true) × (new ≡ old) × (status ≡ 1)) ⊎ ((file.is_other_type ≡ false) × LoadsAndChecks (now + check.seconds))

-- ---- what the words ask for

-- the first option of how a cache is listed that does not go with another one
abbrev pub odd_columns : Matched → List ℕ → Option MistakeParts
odd_columns words own =
    option_or (apart words own (codes "enctypes") (codes "-e") (codes "--enctypes"))
    (option_or (apart words own (codes "flags") (codes "-f") (codes "--flags")) (apart words own (codes "config") (codes "-C") (codes "--config")))

-- `-s` as it was typed
abbrev pub silent : Matched → List ℕ
silent words = typed words (codes "-s") (codes "--silent")

-- the first option that does not go with `-s`
abbrev pub odd_with_silent : Matched → Option MistakeParts
odd_with_silent words =
    option_or (apart words (silent words) (codes "keytab") (codes "-k") (codes "--keytab"))
    (option_or (apart words (silent words) (codes "json") (codes "--json") (codes "--json")) (odd_columns words (silent words)))

-- several files are given to `-s`
abbrev pub odd_files : Matched → Option MistakeParts
odd_files words = if nat_lt 1 (length (words.values (codes "FILE"))) then Some (takes_one_file (silent words)) else None

-- what the words of `klist -s` ask for, or their first mistake
abbrev pub ticket_check_of : Matched → Result TicketCheck MistakeParts
ticket_check_of words = do
  odd_seconds words
  odd_with_silent words
  odd_with_cache words
  odd_files words
  seconds ← spelled_seconds (first_value words (codes "for"))
  Ok (record { seconds = unwrap_or seconds 0 })

-- ---- what a pass over the credentials of a cache has seen

-- what was seen so far, with what the rest shows, is what all show
pub record SeesSoFar (realm : List ℕ) (rest all : List PlacedCredential) (seen : Seen) : Type 0 where
  pub count : min (2 ^ 64 - 1) (seen.count + length (filter is_ticket rest)) ≡ min (2 ^ 64 - 1) (length (filter is_ticket all))
  pub tgt_end : later seen.tgt_end (latest (filter (is_tgt realm) rest)) ≡ latest (filter (is_tgt realm) all)
  pub ticket_end : later seen.ticket_end (latest (filter is_ticket rest)) ≡ latest (filter is_ticket all)
