-- What a run of a command comes to if no call fails: what it prints, how it ends, and its files afterwards.
use Rattle.samples.proofs.Cited.{filter_map, list_any, ℕ, ◌+◌, max, List, [], ◌∷◌, ◌++◌, codes, length, map, Bool, false, nat_lt, Option, None, Some, option_map, unwrap_or, Result, Ok, Err, if◌then◌else◌, slice_get, nat_eq, filter, ◌&&◌, Well, ccremove_plan, most_bytes, KeytabState, FileMap, loaded, node_of, RunEnd, NothingSelected, OtherType, FileName, LikePrincipal, Word, Ending, ending_status, error_of_name, ending_text, near_words, words_if, is_missing, missing_error, is_none, seen_after, ktremove_plan, goes_on, frame, most_frame, held_in, received, held_file_kind, HoldEnd, about_end, end_of_hold, last_line, CommandPlan, Effect, Fails, Displays, Saves, files_after, opens, result_map, result_map_err, whole_in, found_fault_words, ticket_removal_of, hold_of, removal_of}
use Rattle.krb_keytab_text.specs.Script.{event_in}
use Rattle.krb_findings.specs.Table.{none}
use Rattle.std.specs.Str.{bytes_eq}
use Rattle.std.specs.Option.{option_map_or}
use Rattle.krb_files.specs.Plan.{Ends, follow, with_bytes}
use Rattle.krb_cache_text.specs.Script.{cache_line_in}
use Rattle.krb_driver.specs.declared.error.RunError.{RunError}
use Rattle.krb_driver.specs.declared.reporting.details.Details.{Details}
use Rattle.krb_driver.specs.declared.verdict.FileKind.{FileKind}
use Rattle.krb_driver.specs.declared.verdict.FileKind.TheVariants.{Keytab, Cache, Either}
use Rattle.krb_driver.specs.FileNames.{bare_name, is_other_type}
use Rattle.krb_driver.specs.Messages.{message}
use Rattle.krb_driver.specs.Mistakes.{Matched, MistakeParts, help_of, mistake_line, v1_order}
use Rattle.krb_driver.specs.Effects.{about, ending_of, saves_unless}
use Rattle.krb_readers.specs.Ktcheck.{aged_by, explained_after, plan_of as check_plan}
use Rattle.krb_readers.specs.KtcheckWords.{keytab_check_of}
use Rattle.krb_readers.specs.Klist.{check_status, file_kind, klist_plan, listing_of, printed_after, ticket_check_of}
use Rattle.krb_match.specs.Names.{entry_text}
use Rattle.krb_readers.specs.Ktmatch.{first_state, is_none as is_none_matched, match_plan, none_error, sought, state_after}
use Rattle.krb_readers.specs.declared.ktmatch.state.MatchState.{MatchState}
use Rattle.krb_readers.specs.KtmatchWords.{ticket_match_of}
use Rattle.krb_readers.specs.Overview.{heading, overview_of, overview_plan}
use Rattle.krb_readers.specs.Show.{show_of, show_plan}
use Rattle.krb_readers.specs.Ktfind.{entry_sought_of, ktfind_plan}
use Rattle.krb_editors.specs.Ccedit.{ccedit_plan}
use Rattle.krb_editors.specs.Ktcopy.{copy_of, ktcopy_plan}
use Rattle.krb_editors.specs.Ktdiff.{comparison_of, ktdiff_plan}
use Rattle.krb_editors.specs.Ktedit.{ktedit_plan}
use Rattle.krb_editors.specs.declared.removing.FilesSeen.{FilesSeen}
use Rattle.krb_editors.specs.declared.removing.FilesSeen.TheVariants as seen
use Rattle.krb_editors.specs.Sessions.{lines_in}
use Rattle.krb_editors.specs.declared.hold.last_line.Outcome.TheVariants.{Saved, Left}
use Rattle.krb_ktutil.specs.declared.ktutil.awaiting.Awaiting.TheVariants.{Nothing}
use Rattle.krb_ktutil.specs.InputLines.{lines_of}
use Rattle.krb_ktutil.specs.KtutilPlan.{KtutilState, plan_of}

-- the name of a file, as a word gives it
abbrev named : Bool → FileKind → List ℕ → FileName
named in_place kind word = record {
  kind = kind;
  name = record { ref_ptr = (0, 0); now = bare_name kind word };
  is_other_type = is_other_type kind word;
  source = Word;
  in_place = in_place;
}

-- ---- command lines

-- the words of a command line: its flags, the values of its options and operands, by the names of these, and the long names on it
abbrev pub words : List (List ℕ) → List (List ℕ × List ℕ) → List (List ℕ) → Matched
words flags given long = record {
  flag = λ name. list_any (bytes_eq name) flags;
  operand = λ name. unwrap_or (slice_get (values_of name) 0) [];
  values = values_of;
  is_long = λ name. list_any (bytes_eq name) long;
} where
  values_of : List ℕ → List (List ℕ)
  values_of name = filter_map (λ x. if bytes_eq name x.0 then Some x.1 else None) given

-- the files that the words name
abbrev operands : Matched → FileKind → List FileName
operands ws kind = map (named (ws.flag (codes "in-place")) kind) (ws.values (codes "FILE"))

-- the file that an operand names
abbrev operand : Matched → FileKind → List ℕ → FileName
operand ws kind name = named (ws.flag (codes "in-place")) kind (ws.operand name)

-- ---- what is seen of a run

-- what a run prints, on the output and on the error output, its status, and its files afterwards
pub record Seen : Type 0 where
  pub out : List ℕ
  pub err : List ℕ
  pub status : ℕ
  pub files : FileMap

-- files with these bytes under these names
abbrev pub given : List (List ℕ × List ℕ) → FileMap
given [] name = None
given (x ∷ xs) name = with_bytes (given xs) x.0 x.1 name

-- the files of those names
abbrev pub those : List (List ℕ) → Seen → List ℕ × List ℕ × ℕ × List (Option (List ℕ))
those names s = (s.out, s.err, s.status, map s.files names)

-- no call failed
abbrev no_details : Details
no_details = record { cause = None; in_the_way = None; aftermath = None }

-- what an effect prints
abbrev output : Effect → List ℕ
output (Fails file why) = []
output (Displays file page) = page.out
output (Saves file bytes out verdict) = out

-- a run, or a line of ktutil, that prints this about a file and ends so, with its messages explained or not
abbrev ends_at : Option ℕ → Bool → List ℕ → List ℕ → Ending → FileMap → Seen
ends_at line explains out file end files = record { out = out; err = ending_text explains file line no_details end; status = ending_status end; files = files }

-- the same of a run
abbrev ends : Bool → List ℕ → List ℕ → Ending → FileMap → Seen
ends explains = ends_at None explains

-- a run with that plan
abbrev follows : Bool → FileMap → CommandPlan → Seen
follows explains files plan =
    let effect = follow files plan in
    ends explains (output effect) (about effect) (ending_of effect) (files_after files effect)

-- a run by what was read first, for a file; or its error ends it
abbrev unless_fails : {X : Type 0} → Bool → List ℕ → FileMap → (X → Seen) → Result X RunError → Seen
unless_fails explains file files run (Ok x) = run x
unless_fails explains file files run (Err why) = ends explains [] file (Err why) files

-- a run, and after it another
abbrev followed_by : Seen → Seen → Seen
followed_by first next = record { out = first.out ++ next.out; err = first.err ++ next.err; status = max first.status next.status; files = next.files }

-- a command over files one after the other, with what is said after each, and how what it remembers at last ends it
abbrev over : {S : Type 0} → Bool → (S → FileName → CommandPlan) → (S → RunEnd → S) → (S → List ℕ → List ℕ) → (S → FileMap → Seen) → S → FileMap → List FileName → Seen
over explains plan after said last state files [] = last state files
over explains plan after said last state files (file ∷ names) =
    let effect = follow files (plan state file) in
    let first = follows explains files (Ends effect) in
    let next = after state (record { ending = ending_of effect; status = first.status }) in
    followed_by (record first { err = first.err ++ said next file.name.now }) (over explains plan after said last next first.files names)

-- the same if nothing is said after a file and at the end
abbrev over_all : {S : Type 0} → Bool → (S → FileName → CommandPlan) → (S → RunEnd → S) → S → FileMap → List FileName → Seen
over_all explains plan after = over explains plan after (λ state file. []) (λ state. ends explains [] [] (Ok Well))

-- a run with what the words of a line spell; or their mistake is reported, and nothing is done
abbrev by_words : {X : Type 0} → Bool → List ℕ → FileMap → Result X MistakeParts → (X → Seen) → Seen
by_words explains command files (Ok x) run = run x
by_words explains command files (Err mistake) run = record {
  out = [];
  err = message (codes "bad command line") ++ words_if explains (codes "krbfile: " ++ (mistake_line mistake ++ help_of (Some command)));
  status = 2;
  files = files;
}

-- ---- the commands, over files

abbrev pub klist : Bool → FileMap → Matched → Seen
klist explains files ws = by_words explains (codes "klist") files (listing_of ws) (λ o. over_all explains (klist_plan o) printed_after false files (operands ws (file_kind o.kind)))

-- `klist -l` at a second
abbrev pub klist_overview : Bool → ℕ → FileMap → Matched → Seen
klist_overview explains now files ws =
    by_words explains (codes "klist") files (overview_of ws) (λ json. followed_by (ends explains (heading json) [] (Ok Well) files)
    (over_all explains (λ state. overview_plan json now) (λ state end. state) (tt {0}) files (operands ws Cache)))

-- `klist -s` at a second: it prints nothing
abbrev pub klist_silent : Bool → ℕ → FileMap → Matched → Seen
klist_silent explains now files ws =
    let file = operand ws Cache (codes "FILE") in
    by_words explains (codes "klist") files (ticket_check_of ws) (λ check.
    let status = if file.is_other_type then 1 else check_status (now + check.seconds) (loaded (files file.name.now) most_bytes) in
    record { out = []; err = []; status = status; files = files })

-- at a second; the files are plain with this mode
abbrev pub show : Bool → ℕ → ℕ → FileMap → Matched → Seen
show explains mode now files ws =
    by_words explains (codes "show") files (show_of ws) (λ o.
    over_all explains (λ is_after file. show_plan o.v1_order now is_after file (Some mode)) printed_after false files (operands ws Either))

abbrev pub ktfind : Bool → FileMap → Matched → Seen
ktfind explains files ws = by_words explains (codes "ktfind") files (entry_sought_of ws) (λ o. follows explains files (ktfind_plan o (named false Keytab (ws.operand (codes "FILE")))))

-- the files are plain with this mode; a finding is explained once
abbrev pub ktcheck : Bool → ℕ → ℕ → FileMap → Matched → Seen
ktcheck explains mode now files ws =
    by_words explains (codes "ktcheck") files (keytab_check_of ws) (λ o. let are_several = nat_lt 1 (length (ws.values (codes "FILE"))) in
    unless_fails explains [] files (λ by. over_all explains (λ explained file. check_plan o by are_several explained file (Some mode)) explained_after none files (operands ws Keytab)) (aged_by o.older (Some now)))

-- what is said of a cache after its run
abbrev said_of : KeytabState → MatchState → List ℕ → List ℕ
said_of k s file = option_map_or (λ found. near_words (option_map (entry_text k) found.near) ++ found_fault_words file found.fault) s.last []

-- the tickets of caches are matched, one cache after the other, and at the end it is reported if there were none
abbrev pub ktmatch : Bool → FileMap → Matched → Seen
ktmatch explains files ws =
    let keytab = named false Keytab (ws.operand (codes "KEYTAB")) in
    let names = map (named false Cache) (ws.values (codes "CACHE")) in
    by_words explains (codes "ktmatch") files (ticket_match_of ws) (λ o.
    let none = none_error (sought o) names in
    let last : MatchState → FileMap → Seen = λ s. if is_none_matched s then ends explains [] none.1 (Err none.0) else ends explains [] [] (Ok Well) in
    let given = if keytab.is_other_type then Err (OtherType Keytab Word) else result_map_err (error_of_name Word) (whole_in o.v1_order (loaded (files keytab.name.now) most_bytes)) in
    unless_fails explains keytab.name.now files (λ k. over explains (match_plan o keytab.name.now (nat_lt 1 (length names)) (k, explains)) state_after (λ s file. words_if explains (said_of k s file)) last first_state files names) given)

abbrev pub ktedit : Bool → FileMap → List ℕ → Matched → Seen
ktedit explains files script ws =
    unless_fails explains [] files (λ lines. follows explains files (ktedit_plan (v1_order ws) (operand ws Keytab (codes "FILE")) lines)) (lines_in event_in (Ok script))

abbrev pub ccedit : Bool → FileMap → List ℕ → Matched → Seen
ccedit explains files script ws =
    unless_fails explains [] files (λ lines. follows explains files (ccedit_plan (operand ws Cache (codes "FILE")) lines)) (lines_in cache_line_in (Ok script))

-- the files that are to be changed: one with an `@` may be meant as a principal
abbrev changed : FileKind → Matched → List FileName
changed kind ws = map {A = FileName} (λ file. record file { source = if list_any (nat_eq 64) file.name.now then LikePrincipal else Word }) (operands ws kind)

-- what is asked for is removed from files, and at the end it is reported if it is in none; if some of several are missing that is reported alone
abbrev removes : Bool → FileKind → (Bool → FileName → CommandPlan) → FileMap → Matched → Seen
removes explains kind plan files ws =
    let names = changed kind ws in
    let are_several = nat_lt 1 (length names) in
    let missing = filter (λ file. is_missing file (node_of (files file.name.now))) names in
    let last : FilesSeen → FileMap → Seen = λ seen. ends explains [] [] (if is_none seen then Err (NothingSelected kind) else Ok Well) in
    if are_several && nat_lt 0 (length missing) then over_all explains (λ state file. Ends (Fails file.name.now (missing_error file))) (λ state end. state) (tt {0}) files missing
    else over explains (λ seen. plan are_several) seen_after (λ seen file. []) last seen.None files names

-- at a second, which is asked for with `--age` alone
abbrev pub ktremove : Bool → ℕ → FileMap → Matched → Seen
ktremove explains now files ws = by_words explains (codes "ktremove") files (removal_of ws) (λ o. removes explains Keytab (ktremove_plan o now) files ws)

-- at a second, which is asked for with `--expired` alone
abbrev pub ccremove : Bool → ℕ → FileMap → Matched → Seen
ccremove explains now files ws = by_words explains (codes "ccremove") files (ticket_removal_of ws) (λ o. removes explains Cache (ccremove_plan o (if o.expired then Some now else None)) files ws)

abbrev pub ktcopy : Bool → FileMap → Matched → Seen
ktcopy explains files ws = by_words explains (codes "ktcopy") files (copy_of ws) (λ o. follows explains files (ktcopy_plan o (named false Keytab (ws.operand (codes "FROM"))) (operand ws Keytab (codes "TO"))))

abbrev pub ktdiff : Bool → FileMap → Matched → Seen
ktdiff explains files ws = by_words explains (codes "ktdiff") files (comparison_of ws) (λ o. follows explains files (ktdiff_plan o (named false Keytab (ws.operand (codes "A"))) (named false Keytab (ws.operand (codes "B")))))

-- what hold does with a file by the image in it and by what the input gives
abbrev exchanged : List ℕ → List ℕ → Result (Option (List ℕ)) RunError → Effect
exchanged file image (Ok given) = saves_unless (bytes_eq (unwrap_or given image) image) file (unwrap_or given image) (frame image) Well
exchanged file image (Err why) = Displays (codes "input") (record { out = frame image; ending = Err why; takes = false })

-- how it says that it ended
abbrev hold_end : Effect → HoldEnd
hold_end (Fails file why) = Err (file, why)
hold_end (Displays file page) = result_map_err (λ why. (file, why)) (result_map (λ verdict. Left) page.ending)
hold_end (Saves file bytes out verdict) = Ok Saved

-- with that input
abbrev pub hold : Bool → FileMap → List ℕ → Matched → Seen
hold explains files input ws = by_words explains (codes "hold") files (hold_of ws) (λ kind.
    let file = operand ws (held_file_kind kind) (codes "FILE") in
    let effect = follow files (opens file (held_in kind file.in_place) (λ image. Ends (exchanged file.name.now image (received kind (loaded (Some input) most_frame))))) in
    let end = hold_end effect in
    let run = ends explains (output effect) (about_end file.name.now end) (end_of_hold end) (files_after files effect) in
    record run { out = run.out ++ last_line run.status None None end })

-- lines of ktutil at a second, one after the other, the first with that number, up to one that is the last
abbrev ktutil_lines : Bool → ℕ → ℕ → KtutilState → FileMap → List (List ℕ) → Seen
ktutil_lines explains now number state files [] = ends explains [] [] (Ok Well) files
ktutil_lines explains now number state files (line ∷ lines) =
    let came = follow files (plan_of state now number line) in
    let end = ending_of came.effect in
    let first = ends_at (Some number) explains (output came.effect) (about came.effect) end (files_after files came.effect) in
    if goes_on came.quits end then followed_by first (ktutil_lines explains now (number + 1) came.state first.files lines) else first

-- the lines of an input at a second, without prompts
abbrev pub ktutil : Bool → ℕ → FileMap → List ℕ → Matched → Seen
ktutil explains now files input ws = ktutil_lines explains now 1 (record { order = v1_order ws; entries = []; awaiting = Nothing }) files (lines_of input)
