-- What ktmatch does.
use Rattle.std.specs.Prelude.{◌≡◌, ◌⊎◌, ◌==◌, ℕ, max, List, [], ◌∷◌, ◌++◌, length, fold, Bool, true, false, not, ◌&&◌, ◌||◌, nat_lt, IsTrue, IsFalse, if◌then◌else◌, Option, None, Some, is_some, option_map, Result, Ok, Err}
use Rattle.std.specs.List.{flat_map, list_any}
use Rattle.std.specs.Option.{option_map_or}
use Rattle.krb_walk.specs.Store.{fault_of}
use Rattle.krb_walk.specs.declared.fault.Fault.{Fault}
use Rattle.krb_keytab.specs.Store.{KeytabState}
use Rattle.krb_ccache.specs.Store.{CacheState, store_of as cache_store}
use Rattle.krb_files.specs.declared.files.Files.{Ghosts}
use Rattle.krb_files.specs.Plan.{Ends}
use Rattle.krb_audit.specs.Report.{labelled_fault}
use Rattle.krb_findings.specs.Table.{joined, none, row_of, with_if, without}
use Rattle.krb_findings.specs.declared.finding_set.FindingSet.{FindingSet}
use Rattle.krb_names.specs.Asked.{asks_for_any}
use Rattle.krb_match.specs.declared.judgement.Judgement.{Judgement}
use Rattle.krb_match.specs.Names.{entry_text}
use Rattle.krb_match.specs.Said.{finding_of, is_wrong}
use Rattle.krb_match.specs.Tickets.{MatchedParts, matched_line, matched_tickets, near_ticket}
use Rattle.krb_json.specs.Matches.{match_json_text}
use Rattle.krb_driver.specs.declared.command.RunEnd.{RunEnd}
use Rattle.krb_driver.specs.declared.command.World.{World}
use Rattle.krb_driver.specs.declared.error.RunError.{RunError}
use Rattle.krb_driver.specs.declared.error.RunError.TheVariants as error
use Rattle.krb_driver.specs.declared.file_name.FileName.{FileName}
use Rattle.krb_driver.specs.declared.reporting.details.Details.{Details}
use Rattle.krb_driver.specs.declared.verdict.Judged.{Judged as Found}
use Rattle.krb_driver.specs.declared.verdict.TicketsSought.{TicketsSought}
use Rattle.krb_driver.specs.declared.verdict.TicketsSought.TheVariants.{Asked, OfServices}
use Rattle.krb_driver.specs.declared.verdict.Verdict.TheVariants.{Judged}
use Rattle.krb_driver.specs.Commands.{CommandPlan, Displays, Fails, Finishes, GivesOf, Page, text, tries}
use Rattle.krb_driver.specs.Loading.{matched_in, whole_in}
use Rattle.krb_driver.specs.RunErrors.{Ending, verdict_status}
use Rattle.krb_driver.specs.Runs.{ErrorWatch, NamesNear, Reports}
use Rattle.krb_driver.specs.Several.{Round, RunsOver, first_round, is_last, label_of}
use Rattle.krb_readers.specs.Ktcheck.{refused_effect}
use Rattle.krb_readers.specs.declared.ktmatch.command.MatchFiles.{MatchFiles}
use Rattle.krb_readers.specs.declared.ktmatch.page.MatchObject.{MatchObject}
use Rattle.krb_readers.specs.declared.ktmatch.state.MatchState.{MatchState}
use Rattle.krb_readers.specs.KtmatchWords.{TicketMatch}

-- ---- the lines of a cache

-- ktmatch prints a line of a ticket: with `-q` only if the ticket counts for the status
abbrev pub is_shown : Bool → Judgement → Bool
is_shown quiet j = not quiet || is_wrong j

-- the line of a ticket after a label, unless ktmatch leaves it out
abbrev pub line_of : Bool → List ℕ → MatchedParts → List ℕ
line_of quiet label t = if is_shown quiet t.judgement then label ++ matched_line t else []

-- the lines of a cache's tickets, and of its fault, each after a label
abbrev pub lines_of : Bool → List ℕ → List MatchedParts → Option Fault → List ℕ
lines_of quiet label ts fault = flat_map (line_of quiet label) ts ++ labelled_fault label fault

-- ---- its verdict

-- the findings to explain, with that of one ticket more, if it is shown
abbrev pub words_with : FindingSet → Bool → Judgement → FindingSet
words_with words quiet j = option_map_or (λ f. with_if (not quiet || (row_of f).counts) f words) (finding_of j) words

-- the findings to explain of a cache's tickets
abbrev pub words_of : Bool → List MatchedParts → FindingSet
words_of quiet ts = fold (λ words t. words_with words quiet t.judgement) none ts

-- one of the tickets counts for the status
abbrev pub are_wrong : List MatchedParts → Bool
are_wrong ts = list_any (λ t. is_wrong t.judgement) ts

-- which tickets ktmatch looks at: those for services, or those that `-p` and `--match` name
abbrev pub sought : TicketMatch → TicketsSought
sought o = if asks_for_any o.names then OfServices else Asked

-- the findings to explain of what is printed: of JSON all, and none if its object is left out
abbrev pub words_shown : TicketMatch → Bool → List MatchedParts → FindingSet
words_shown o wrong ts = if o.json && (o.quiet && not wrong) then none else words_of (o.quiet && not o.json) ts

-- something is wrong with a cache: a ticket, the fault, or no ticket is looked at in the only cache
abbrev pub is_found_wrong : Bool → List MatchedParts → Option Fault → Bool
is_found_wrong are_several ts fault = are_wrong ts || (is_some fault || ((length ts == 0) && not are_several))

-- the verdict of ktmatch on a cache, by what the caches before it showed
abbrev pub judged_of : TicketMatch → Bool → MatchState → List MatchedParts → Option ℕ → Option Fault → Found
judged_of o are_several before ts near fault = record {
  words = without (words_shown o (is_found_wrong are_several ts fault) ts) before.explained;
  near = if before.is_named then None else near;
  fault = fault;
  is_wrong = is_found_wrong are_several ts fault;
  is_without = length ts == 0;
}

-- ---- its page

-- what ktmatch prints of a cache as one JSON object
abbrev pub object_page : List ℕ → Found → List ℕ → List MatchedParts → Page
object_page keytab j file ts = record {
  out = match_json_text keytab file ts j.fault (verdict_status (Judged j));
  ending = Ok (Judged j);
  takes = true;
}

module _ (o : TicketMatch) (keytab : List ℕ) (are_several : Bool) where
  -- what ktmatch prints of a cache: lines, or a JSON object, which is left out with `-q` if nothing is wrong
  abbrev pub page_of : List ℕ → List MatchedParts → Found → Page
  page_of file ts j =
      if o.json then (if o.quiet && not j.is_wrong then text [] (Judged j) else object_page keytab j file ts)
      else text (lines_of o.quiet (label_of (o.with_filename || are_several) file) ts j.fault) (Judged j)

  module _ (m : KeytabState × Bool) (s : MatchState) where
    -- what ktmatch prints of a cache by the keytab's entries
    abbrev pub page_due : List ℕ → CacheState → Page
    page_due file k =
        let ts : List MatchedParts = matched_tickets o.names m.0 k in
        page_of file ts (judged_of o are_several s ts (near_ticket m.1 o.names m.0 k) (fault_of (cache_store k)))

    -- the plan of ktmatch for a cache: it is opened, and what the keytab says of its tickets is printed
    abbrev pub match_plan : FileName → CommandPlan
    match_plan file =
        tries file matched_in
        (λ k. Ends (Displays file.name.now (page_due file.name.now k)))
        (λ why. Ends (refused_effect o.json file.name.now why))

-- the plan of the command in code
abbrev pub plan_of : {A B : Type 0} → MatchFiles A B → MatchState → FileName → CommandPlan
plan_of c = match_plan c.options.now c.keytab.now c.are_several c.matcher.now

abbrev pub match_page : {A : Type 0} → MatchObject A → List ℕ → Page
match_page j file = object_page j.keytab.now j.judged file j.tickets.items

-- ---- from one cache to the next

-- what ktmatch remembers before the first cache: nothing
abbrev pub first_state : MatchState
first_state = record { explained = none; is_named = false; is_without = false; is_asked = false; last = None; is_last = false }

-- the lines of a cache among several are those of the cache alone, each after its name
abbrev pub LinesAreOfEach : Type 0
LinesAreOfEach = (o : TicketMatch) (keytab : List ℕ) (m : KeytabState × Bool) (s : MatchState) (file : List ℕ) (k : CacheState) → o.json ≡ false → (page_due o keytab true m s file k).out ≡ (page_due (record o { with_filename = true }) keytab false m first_state file k).out

-- the verdict on a cache, if no error ended its run
abbrev pub judged_by : Ending → Option Found
judged_by (Ok (Judged found)) = Some found
judged_by ending = None

-- what ktmatch remembers after a cache, by its verdict, if there is one
abbrev pub state_with : MatchState → Bool → Option Found → MatchState
state_with s last (Some found) = record {
  explained = joined s.explained found.words;
  is_named = s.is_named || is_some found.near;
  is_without = s.is_without || found.is_without;
  is_asked = s.is_asked || not found.is_without;
  last = Some found;
  is_last = last;
}
state_with s last None = record s { is_asked = s.is_asked || last; last = None; is_last = last }

-- what ktmatch remembers after the run of a cache has ended
abbrev pub state_after : MatchState → RunEnd → MatchState
state_after s end = state_with s (is_last end.ending) (judged_by end.ending)

-- tickets were looked at in none of the caches, though a cache was read: that is to be reported
abbrev pub is_none : MatchState → Bool
is_none s = s.is_without && not s.is_asked

-- the entry whose name is nearly that of a ticket was named, and the fault of the cache explained, on the error output `err'` after `err`
abbrev pub NamesEntry : KeytabState → List ℕ → Option Found → ErrorWatch → ErrorWatch → Type 0
NamesEntry k file None err err' = err' ≡ err
NamesEntry k file (Some found) err err' = NamesNear (option_map (entry_text k) found.near) file found.fault err err'

-- the error if no ticket was looked at, in the only cache or in any of several, and the file that its message names
abbrev pub none_error : TicketsSought → List FileName → RunError × List ℕ
none_error which (file ∷ []) = (error.NoTicketIn which, file.name.now)
none_error which names = (error.NoTickets which, [])

module _ {F R W E : Type 0} (trait : Ghosts F) where
  -- a cache was matched after those before it, and then a nearly equal name of the keytab was named
  pub record MatchesNext (k : KeytabState) (plan : MatchState → FileName → CommandPlan) (file : FileName) (old new : Round MatchState F R W E) : Type 0 where
    pub ran : Round MatchState F R W E
    pub over : RunsOver trait (λ s file mode. plan s file) state_after (file ∷ []) (first_round old.state old.world) ran
    pub named : NamesEntry k file.name.now ran.state.last ran.world.err new.world.err
    pub same : new.world ≡ record ran.world { err = new.world.err }
    pub state : new.state ≡ ran.state
    pub status_is : new.status ≡ max old.status ran.status

  -- caches were matched one after the other, up to the last, which took a run from `old` to `new`
  abbrev pub MatchesEach : KeytabState → (MatchState → FileName → CommandPlan) → List FileName → Round MatchState F R W E → Round MatchState F R W E → Type 0
  MatchesEach k plan [] old new = new ≡ old
  MatchesEach k plan (file ∷ names) old new =
      (between : Round MatchState F R W E) × MatchesNext k plan file old between
      × ((IsTrue between.state.is_last × (new ≡ between)) ⊎ (IsFalse between.state.is_last × MatchesEach k plan names between new))

  -- ---- all of a run

  -- a run of ktmatch ended with the report that no ticket was looked at
  pub record ReportsNone (which : TicketsSought) (names : List FileName) (worst : ℕ) (old new : World F R W E) (status : ℕ) : Type 0 where
    pub reported : ℕ
    pub details : Details
    pub left_behind : details.aftermath ≡ None
    pub reports : Reports (none_error which names).1 None details (Err (none_error which names).0) old.err new.err reported
    pub same : new ≡ record old { err = new.err }
    pub status_is : status ≡ max worst reported

  -- after the last cache ktmatch reported it if no ticket was looked at; else nothing more was done
  abbrev pub EndsMatches : TicketsSought → List FileName → MatchState → ℕ → World F R W E → World F R W E → ℕ → Type 0
  EndsMatches which names s worst old new status =
      (IsTrue (is_none s) × ReportsNone which names worst old new status) ⊎ (IsFalse (is_none s) × (new ≡ old) × (status ≡ worst))

  -- an error of the keytab ended a run of ktmatch, which took the world from `old` to `new` with this status
  pub record EndsBy (file : List ℕ) (why : RunError) (old new : World F R W E) (status : ℕ) : Type 0 where
    pub end : RunEnd
    pub finishes : Finishes trait None (Fails file why) old.files new.files old.out new.out old.err new.err end
    pub input : new.input ≡ old.input
    pub status_is : status ≡ end.status

  -- the tickets of caches `names` were matched with a keytab, which took the world from `old` to `new` with this status
  pub record MatchesCaches (o : TicketMatch) (keytab : List ℕ) (m : KeytabState × Bool) (names : List FileName) (old new : World F R W E) (status : ℕ) : Type 0 where
    pub ran : Round MatchState F R W E
    pub each : MatchesEach m.0 (match_plan o keytab (nat_lt 1 (length names)) m) names (first_round first_state old) ran
    pub ends : EndsMatches (sought o) names ran.state ran.status ran.world new status

  -- the tickets were matched with the keytab that its load gave, or memory ran out; or the load's error ended the run
  abbrev pub MatchesGiven : TicketMatch → List ℕ → List FileName → World F R W E → World F R W E → ℕ → Result KeytabState (List ℕ × RunError) → Type 0
  MatchesGiven o keytab names old new status (Err met) = EndsBy met.0 met.1 old new status
  MatchesGiven o keytab names old new status (Ok k) = EndsBy [] error.NoMemory old new status ⊎ MatchesCaches o keytab (k, old.err.explains) names old new status

  -- a run of ktmatch took the world from `old` to `new` with this status: a keytab without damage was opened, and the tickets of caches were matched with it, one cache after the other
  pub record MatchesAll (o : TicketMatch) (keytab : FileName) (old new : World F R W E) (status : ℕ) (names : List FileName) : Type 0 where
    pub given : Result KeytabState (List ℕ × RunError)
    pub files : F
    pub gives : GivesOf trait old.files keytab (whole_in o.v1_order) given files
    pub goes_on : MatchesGiven o keytab.name.now names (record old { files = files }) new status given
