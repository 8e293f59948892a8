-- The words that explain how a run ended: what follows its message where words are shown.
use Rattle.std.specs.Prelude.{ℕ, List, [], ◌++◌, Bool, false, nat_eq, if◌then◌else◌, Option, None, Some, is_some, option_map, unwrap_or, Ok, Err, codes, decimal, unsigned_abs}
use Rattle.std.specs.List.{flat_map, starts_with}
use Rattle.krb_walk.specs.Phrases.{code_number, fault_number, fault_phrase}
use Rattle.krb_files.specs.declared.cause.Cause.{Cause}
use Rattle.krb_files.specs.declared.cause.Cause.TheVariants.{InTheWay, System}
use Rattle.krb_files.specs.Phrases.{cause_phrase}
use Rattle.krb_text.specs.Escape.{escaped_text}
use Rattle.krb_text.specs.declared.line_fault.LineFault.TheVariants.{UnknownWord}
use Rattle.krb_text.specs.LineFault.{line_phrase, ktutil_phrase}
use Rattle.krb_findings.specs.Table.{all_findings, findings_about_tickets, has, row_of}
use Rattle.krb_findings.specs.declared.finding.Finding.{Finding}
use Rattle.krb_findings.specs.declared.finding_set.FindingSet.{FindingSet}
use Rattle.krb_driver.specs.declared.file_name.NameSource.TheVariants.{Word, LikePrincipal, CacheVariable, KeytabVariable, Default}
use Rattle.krb_driver.specs.declared.verdict.FileKind.{FileKind}
use Rattle.krb_driver.specs.declared.verdict.FileKind.TheVariants.{Keytab}
use Rattle.krb_driver.specs.declared.reporting.details.Details.{Details}
use Rattle.krb_driver.specs.declared.reporting.reported.Failure.{Failure}
use Rattle.krb_driver.specs.declared.reporting.reported.Failure.TheVariants.{Refused, Faulted}
use Rattle.krb_driver.specs.declared.reporting.reported.Reported.{Reported}
use Rattle.krb_driver.specs.declared.reporting.row.Explains.{Explains}
use Rattle.krb_driver.specs.declared.reporting.row.Explains.TheVariants as by
use Rattle.krb_driver.specs.declared.verdict.Findings.{Findings}
use Rattle.krb_driver.specs.declared.verdict.Verdict.TheVariants.{HiddenFrom, NoEntry, Listed, Replied, Found, Judged, NothingToRemove, Clashed}
use Rattle.krb_driver.specs.ErrorRows.{Hidden, error_row, nothing_phrase, refusal_phrase, said_text}
use Rattle.krb_driver.specs.FileNames.{shown_name, type_of, untyped}
use Rattle.krb_driver.specs.FirstWords.{word_text}
use Rattle.krb_driver.specs.Hints.{hint_words}
use Rattle.krb_driver.specs.Messages.{file_message, line_if, numbered_line, words_line, phrase_line}
use Rattle.krb_driver.specs.RunErrors.{Fault, LineFault, RunError, NameSource, Verdict, FirstWord, Ending}

-- what is wrong with a line of a script, or of ktutil if a line number is given
abbrev pub line_fault_phrase : Option ℕ → LineFault → List ℕ
line_fault_phrase None fault = line_phrase fault
line_fault_phrase (Some line) fault = ktutil_phrase fault

-- the words that say where a file's name comes from, if no word of a line gave it; or how a principal is named
abbrev pub source_words : NameSource → List ℕ
source_words Word = []
source_words LikePrincipal = codes "krbfile: to name a principal, give -p\n"
source_words CacheVariable = codes "krbfile: KRB5CCNAME names it\n"
source_words KeytabVariable = codes "krbfile: KRB5_KTNAME names it\n"
source_words Default = codes "krbfile: the default name (krb5.conf is not read); give FILE\n"

-- the words for a missing file: ktutil says it once more, and a run says where a name comes from that it was not given
abbrev pub missing_words : Option ℕ → NameSource → List ℕ
missing_words None source = source_words source
missing_words (Some line) source = phrase_line (Some line) (codes "no such file")

-- the type that a name begins with
abbrev pub type_in : List ℕ → List ℕ
type_in name = unwrap_or (type_of name) []

-- the words for a name of a type that is not read, and where the name comes from
abbrev pub type_words : Option ℕ → List ℕ → NameSource → List ℕ
type_words line name source = words_line line (codes "only files are read, and this is " ++ (shown_name (type_in name) ++ (codes "\n" ++ source_words source)))

-- a name is that of a collection of caches
abbrev pub is_collection : FileKind → List ℕ → Bool
is_collection Keytab name = false
is_collection kind name = starts_with nat_eq name (codes "DIR:")

-- the words for a name of a type that is not read, of a file that is to be of that kind, and where the name comes from
abbrev pub other_type_words : Option ℕ → FileKind → List ℕ → NameSource → List ℕ
other_type_words line kind name source =
    if is_collection kind name then words_line line (codes "a collection; give one of its caches, DIR::FILE\n" ++ source_words source)
    else type_words line name source

-- the words for a name that begins with a type where a file is to be written
abbrev pub typed_words : Option ℕ → List ℕ → List ℕ
typed_words line name =
    if is_some (untyped Keytab name) then words_line line (codes "leave out " ++ (shown_name (type_in name) ++ codes "\n")) else type_words line name Word

-- the words for what keeps a save from making its new file, by its path if that is known
abbrev pub way_words : List ℕ → Option ℕ → Option (List ℕ) → List ℕ
way_words file line None = words_line line (shown_name file ++ codes ".krbfile is in the way\n")
way_words file line (Some path) = words_line line (shown_name path ++ codes " is in the way\n")

-- the words for the cause of a failed call, if it is known
abbrev pub cause_by : List ℕ → Option ℕ → Option (List ℕ) → Option Cause → List ℕ
cause_by file line path None = []
cause_by file line path (Some InTheWay) = way_words file line path
cause_by file line path (Some (System number)) = words_line line (codes "error " ++ (decimal (unsigned_abs number) ++ codes "\n"))
cause_by file line path (Some cause) = phrase_line line (cause_phrase cause)

abbrev pub cause_words : List ℕ → Option ℕ → Details → List ℕ
cause_words file line details = cause_by file line (option_map (λ path. path.now) details.in_the_way) details.cause

-- the words of --explain for the fault of a file, with a phrase
abbrev pub fault_with : List ℕ → Fault → List ℕ → List ℕ
fault_with file fault what = codes "krbfile: " ++ (shown_name file ++ (codes ": fault " ++ (decimal (fault_number fault.kind) ++ (codes " at " ++ (decimal fault.place ++ (codes "\nkrbfile: " ++ (what ++ codes "\n")))))))

-- the words of --explain for the fault that a listing reports, with the file's name and the fault's phrase
abbrev pub listed_words : List ℕ → Fault → List ℕ
listed_words file fault = fault_with file fault (fault_phrase fault.kind)

-- the line for a failure that replies report: its number and its phrase
abbrev pub failure_words : FileKind → Option Failure → List ℕ
failure_words kind None = []
failure_words kind (Some (Refused code)) = numbered_line (codes "krbfile: refused ") (code_number code) (refusal_phrase kind code)
failure_words kind (Some (Faulted fault)) = numbered_line (codes "krbfile: fault ") (fault_number fault) (fault_phrase fault)

-- the words for an entry that was added and that MIT's programs do not see, as they see none from a place on
abbrev pub hidden_words : List ℕ → Option ℕ → ℕ → List ℕ
hidden_words file None place = file_message file (said_text (Hidden place))
hidden_words file line place = phrase_line line (said_text (Hidden place))

-- the words for an added entry that MIT's programs do not see, if there is one
abbrev pub hidden_words_of : List ℕ → Option ℕ → List ℕ
hidden_words_of file None = []
hidden_words_of file (Some place) = hidden_words file None place

-- the lines for what replies report: each failure once, and at the end what is hidden
abbrev pub reported_words : List ℕ → Reported → List ℕ
reported_words file r = flat_map (failure_words r.kind) r.failures ++ hidden_words_of file r.hidden_from

-- the line for a finding, if it is to be explained
abbrev pub word_line : FindingSet → Finding → List ℕ
word_line explained finding =
    line_if (has explained finding) (codes "krbfile: " ++ ((row_of finding).word ++ (codes ": " ++ ((row_of finding).phrase ++ codes "\n"))))

-- the words of --explain for the fault that was found, if one was
unfoldable pub found_fault_words : List ℕ → Option Fault → List ℕ
found_fault_words file None = []
found_fault_words file (Some fault) = listed_words file fault

-- the words that explain findings, and hints
abbrev pub found_words : List ℕ → Findings → List ℕ
found_words file findings = flat_map (word_line findings.words) all_findings ++ (found_fault_words file findings.fault ++ hint_words file findings)

-- the words for an unknown first word of a script's line
abbrev pub unknown_words : FirstWord → List ℕ
unknown_words word = codes "krbfile: " ++ (line_phrase UnknownWord ++ (codes ": \"" ++ (escaped_text (word_text word) ++ codes "\"\n")))

-- the words that explain an error of a run over a file, or of a line of ktutil, by what explains it and its phrase
abbrev pub words_by : List ℕ → Option ℕ → Details → List ℕ → Explains → List ℕ
words_by file line details phrase by.Nothing = []
words_by file line details phrase by.Phrase = phrase_line line phrase
words_by file line details phrase (by.LineFault fault) = phrase_line line (line_fault_phrase line fault)
words_by file line details phrase by.Cause = cause_words file line details
words_by file line details phrase (by.Missing source) = missing_words line source
words_by file line details phrase (by.Type kind source) = other_type_words line kind file source
words_by file line details phrase by.TypedName = typed_words line file
words_by file line details phrase (by.First word) = unknown_words word
words_by file line details phrase (by.Input fault) = fault_with file fault (codes "what was given is damaged")

-- the words that explain an error of a run over that file, or of that line of ktutil
abbrev pub error_words : List ℕ → Option ℕ → Details → RunError → List ℕ
error_words file line details error = words_by file line details (error_row error).phrase (error_row error).explains

-- the words for a clash, and for who did not give `--replace`
abbrev pub clash_words : Option ℕ → Bool → List ℕ
clash_words line replaces =
    words_line line (codes "clash: TO has another key for this name, version and type\n" ++ (if replaces then [] else codes "krbfile: --replace takes FROM's key\n"))

-- the words that explain the verdict of a run over that file, but for what replies or findings have
abbrev pub verdict_words : List ℕ → Option ℕ → Verdict → List ℕ
verdict_words file line (HiddenFrom place) = hidden_words file line place
verdict_words file line (NothingToRemove kind) = phrase_line line (nothing_phrase kind)
verdict_words file line NoEntry = words_line line (shown_name file ++ codes " has no entry\n")
verdict_words file line (Clashed replaces) = clash_words line replaces
verdict_words file line (Listed fault) = listed_words file fault
verdict_words file line verdict = []

-- the words for what replies report, for findings, or for lines of tickets
abbrev pub itemized_words : List ℕ → Verdict → List ℕ
itemized_words file (Replied reported) = reported_words file reported
itemized_words file (Found findings) = found_words file findings
itemized_words file (Judged judged) = flat_map (word_line judged.words) findings_about_tickets
itemized_words file verdict = []

-- the words of --explain for the end of a run, as krbfile(1) describes them
unfoldable pub ending_words : List ℕ → Option ℕ → Details → Ending → List ℕ
ending_words file line details (Ok verdict) = verdict_words file line verdict ++ itemized_words file verdict
ending_words file line details (Err error) = error_words file line details error
