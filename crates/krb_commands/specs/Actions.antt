-- The action of a command line, and what it does.
use Rattle.std.specs.Prelude.{unwrap_or, nat_eq, ◌≡◌, ℕ, List, [], ◌∷◌, codes, map, length, nat_lt, slice_get, ◌==◌, is_some, Bool, true, false, if◌then◌else◌, Option, None, Some, Result, Ok, Err, string_bytes}
use Rattle.std.specs.Bool.{then_some}
use Rattle.std.specs.List.{list_any}
use Rattle.std.specs.Result.{result_err}
use Rattle.krb_audit.specs.Selection.{needs_clock}
use Rattle.krb_commands.specs.declared.action.Action.{Action}
use Rattle.krb_commands.specs.declared.needs.Needs.{Needs}
use Rattle.krb_commands.specs.declared.action.Action.TheVariants.{CheckTicket, Overview, Ccedit, Ccremove, Klist, Ktcheck, Ktcopy, Ktdiff, Ktedit, Ktfind, Ktmatch, Ktremove, Ktutil, Show, Hold, HoldOnTerminal, Help}
use Rattle.krb_driver.specs.declared.command_line.mistake.WordFault.{WordFault}
use Rattle.krb_driver.specs.declared.command_line.mistake.WordFault.TheVariants as word
use Rattle.krb_driver.specs.declared.command_line.words.CommandName.{CommandName}
use Rattle.krb_driver.specs.declared.command_line.words.CommandName.TheVariants as name
use Rattle.krb_driver.specs.declared.error.RunError.TheVariants.{OutputIsTerminal}
use Rattle.krb_driver.specs.declared.file_name.NameSource.{NameSource}
use Rattle.krb_driver.specs.declared.file_name.NameSource.TheVariants.{Word, LikePrincipal}
use Rattle.krb_driver.specs.declared.verdict.FileKind.{FileKind}
use Rattle.krb_driver.specs.declared.verdict.FileKind.TheVariants.{Keytab, Cache, Either}
use Rattle.krb_driver.specs.declared.verdict.Verdict.TheVariants.{Well}
use Rattle.krb_driver.specs.FileNames.{IsNamed, bare_name, is_other_type}
use Rattle.krb_editors.specs.Ccedit.{ccedit_fairly, ccedit_plan}
use Rattle.krb_editors.specs.Ccremove.{ccremove_plan, ended_by, ticket_removal_of}
use Rattle.krb_driver.specs.Commands.{Prints, Runs, always, any, Ghosts}
use Rattle.krb_driver.specs.declared.file_name.FileName.{FileName}
use Rattle.krb_driver.specs.declared.command.World.{World}
use Rattle.krb_driver.specs.Loading.{result_map}
use Rattle.krb_readers.specs.Klist.{file_kind, ListsAll, RunsTicketCheck, listing_of, ticket_check_of}
use Rattle.krb_readers.specs.Overview.{SurveysAll, overview_of}
use Rattle.krb_readers.specs.declared.klist.ticket_check.TicketCheck.{TicketCheck}
use Rattle.krb_readers.specs.Ktcheck.{ChecksWith, aged_by}
use Rattle.krb_readers.specs.KtcheckWords.{keytab_check_of}
use Rattle.krb_readers.specs.Ktmatch.{MatchesAll}
use Rattle.krb_readers.specs.KtmatchWords.{ticket_match_of}
use Rattle.krb_readers.specs.Show.{ShowsAll, show_of}
use Rattle.krb_editors.specs.Hold.{RunsHold, file_kind as held_kind, hold_of}
use Rattle.krb_editors.specs.Ktedit.{ktedit_fairly, ktedit_plan}
use Rattle.krb_readers.specs.Ktfind.{entry_sought_of, ktfind_plan}
use Rattle.krb_editors.specs.Ktcopy.{copy_of, ktcopy_plan}
use Rattle.krb_editors.specs.Ktdiff.{comparison_of, ktdiff_plan}
use Rattle.krb_editors.specs.Removing.{RemovesWith}
use Rattle.krb_editors.specs.Ktremove.{ktremove_plan, needed_time, removal_of}
use Rattle.krb_ktutil.specs.KtutilTalk.{RunsKtutil}
use Rattle.krb_driver.specs.Mistakes.{Matched, v1_order, MistakeParts, word_status, word_text}
use Rattle.krb_driver.specs.Runs.{Writes, ends_by}
use Rattle.krb_editors.specs.Sessions.{RunsScript}
use Rattle.krb_keytab_text.specs.Script.{event_in}
use Rattle.krb_cache_text.specs.Script.{cache_line_in}

-- the parts of a file name, and those of the one that a word gives
abbrev pub parts_of : FileName → FileKind × List ℕ × Bool × NameSource × Bool
parts_of file = (file.kind, file.name.now, file.is_other_type, file.source, file.in_place)

-- where the name comes from that a word gives, if one with an `@` comes from there
abbrev pub source_of : NameSource → List ℕ → NameSource
source_of with_at word = if list_any (nat_eq 64) word then with_at else Word

abbrev pub word_parts : FileKind → NameSource → Bool → List ℕ → FileKind × List ℕ × Bool × NameSource × Bool
word_parts kind with_at in_place word = (kind, bare_name kind word, is_other_type kind word, source_of with_at word, in_place)

-- files are those that words name, to be saved in place or not
abbrev pub AreNamed : FileKind → NameSource → Bool → List (List ℕ) → List FileName → Type 0
AreNamed kind with_at in_place words names = map parts_of names ≡ map (word_parts kind with_at in_place) words

-- files are those that the words of an operand name, to be saved in place if the words of the line ask for that
abbrev pub AreFilesBy : NameSource → FileKind → Matched → List ℕ → List FileName → Type 0
AreFilesBy with_at kind words operand names = AreNamed kind with_at (words.flag (codes "in-place")) (words.values operand) names

abbrev pub AreFiles : FileKind → Matched → List FileName → Type 0
AreFiles kind words = AreFilesBy Word kind words (codes "FILE")

-- and one with an `@` may be meant as a principal
abbrev pub AreChanged : FileKind → Matched → List FileName → Type 0
AreChanged kind words = AreFilesBy LikePrincipal kind words (codes "FILE")

-- the action is the one that the words of klist ask for: with `-l` an overview, with `-s` a check, otherwise a listing
abbrev pub AsksKlist : Bool → Bool → Matched → Action → Type 0
AsksKlist true silent words (Overview json names) = (overview_of words ≡ Ok json) × AreFiles Cache words names.items
AsksKlist false true words (CheckTicket check names) = (ticket_check_of words ≡ Ok check) × AreFiles Cache words names.items
AsksKlist false false words (Klist options names) = (listing_of words ≡ Ok options) × AreFiles (file_kind options.kind) words names.items
AsksKlist list silent words action = ⊥

-- a file is the keytab, or the cache, that the word of that operand names, and is to be saved in place if the words ask for that
abbrev pub IsEdited : FileKind → Matched → List ℕ → FileName → Type 0
IsEdited kind words operand file = IsNamed kind (words.operand operand) Word file × (file.in_place ≡ words.flag (codes "in-place"))

-- the action is the one that the words of the command ask for
abbrev pub Asks : CommandName → Matched → Action → Type 0
Asks name.Klist words action = AsksKlist (words.flag (codes "list")) (words.flag (codes "silent")) words action
Asks name.Ktedit words (Ktedit order file) = (order ≡ v1_order words) × IsEdited Keytab words (codes "FILE") file
Asks name.Ktfind words (Ktfind options file) = (entry_sought_of words ≡ Ok options) × IsNamed Keytab (words.operand (codes "FILE")) Word file
Asks name.Ktremove words (Ktremove options names) = (removal_of words ≡ Ok options) × AreChanged Keytab words names.items
Asks name.Ktcopy words (Ktcopy options from to) = (copy_of words ≡ Ok options) × IsNamed Keytab (words.operand (codes "FROM")) Word from × IsEdited Keytab words (codes "TO") to
Asks name.Ktdiff words (Ktdiff options ours others) = (comparison_of words ≡ Ok options) × IsNamed Keytab (words.operand (codes "A")) Word ours × IsNamed Keytab (words.operand (codes "B")) Word others
Asks name.Ktcheck words (Ktcheck options names) = (keytab_check_of words ≡ Ok options) × AreFiles Keytab words names.items
Asks name.Show words (Show options names) = (show_of words ≡ Ok options) × AreFiles Either words names.items
Asks name.Ktmatch words (Ktmatch options keytab names) = (ticket_match_of words ≡ Ok options) × IsNamed Keytab (words.operand (codes "KEYTAB")) Word keytab × AreFilesBy Word Cache words (codes "CACHE") names.items
Asks name.Ccedit words (Ccedit file) = IsEdited Cache words (codes "FILE") file
Asks name.Ccremove words (Ccremove options names) = (ticket_removal_of words ≡ Ok options) × AreChanged Cache words names.items
Asks name.Ktutil words (Ktutil options) = (options.v1_order ≡ v1_order words) × (options.in_place ≡ words.flag (codes "in-place"))
Asks name.Hold words (Hold kind file) = (hold_of words ≡ Ok kind) × IsEdited (held_kind kind) words (codes "FILE") file
Asks command words action = ⊥

-- the first mistake in the words of klist, with `-l`, with `-s` or otherwise
abbrev pub klist_mistake : Bool → Bool → Matched → Option MistakeParts
klist_mistake true silent words = result_err (overview_of words)
klist_mistake false true words = result_err (ticket_check_of words)
klist_mistake false false words = result_err (listing_of words)

-- the first mistake in the words of that command
abbrev pub line_mistake : CommandName → Matched → Option MistakeParts
line_mistake name.Klist words = klist_mistake (words.flag (codes "list")) (words.flag (codes "silent")) words
line_mistake name.Ktfind words = result_err (entry_sought_of words)
line_mistake name.Ktremove words = result_err (removal_of words)
line_mistake name.Ktcopy words = result_err (copy_of words)
line_mistake name.Ktdiff words = result_err (comparison_of words)
line_mistake name.Ktcheck words = result_err (keytab_check_of words)
line_mistake name.Show words = result_err (show_of words)
line_mistake name.Ktmatch words = result_err (ticket_match_of words)
line_mistake name.Ccremove words = result_err (ticket_removal_of words)
line_mistake name.Hold words = result_err (hold_of words)
line_mistake command words = None

-- what a line needs beside its files: nothing
abbrev pub nothing : Needs
nothing = record { clock = false; plain = false; in_place = false; script = false; json = false; left_out = None }

-- several files are named: what is no plain file among them is then refused before it is opened
abbrev pub are_several : List FileName → Bool
are_several names = nat_lt 1 (length names)

-- a line that edits files needs what its words say of saves, and perhaps the time
abbrev pub edits : List FileName → Bool → Needs
edits names clock = record nothing { clock = clock; plain = are_several names; in_place = list_any (λ file. file.in_place) names }

-- what a file is to be that a line of that command leaves out: of show either kind
abbrev pub kind_by : CommandName → FileKind → FileKind
kind_by name.Show default = Either
kind_by command default = default

-- what a line of that command needs that reads files, or else the default one
abbrev pub reads : List FileName → FileKind → CommandName → Needs
reads names default command = record nothing { plain = are_several names; left_out = then_some (length names == 0) (record { default = default; command = command }) }

-- what a line of klist needs that asks for the valid tickets of plain caches
abbrev pub surveys : List FileName → Bool → Needs
surveys names json = record (reads names Cache name.Klist) { clock = true; plain = true; json = json }

-- what an action needs
abbrev pub needs : Action → Needs
needs (Klist options names) = record (reads names.items (file_kind options.kind) name.Klist) { json = options.json }
needs (Overview json names) = surveys names.items json
needs (CheckTicket check names) = surveys names.items false
needs (Ktcheck options names) = record (reads names.items Keytab name.Ktcheck) { clock = is_some options.older; json = options.json }
needs (Show options names) = record (reads names.items options.default name.Show) { clock = true }
needs (Ktmatch options keytab names) = record (reads names.items Cache name.Ktmatch) { json = options.json }
needs (Ktedit order file) = record (edits (file ∷ []) false) { script = true }
needs (Ccedit file) = record (edits (file ∷ []) false) { script = true }
needs (Ktremove options names) = edits names.items (needs_clock options.selection.kvno)
needs (Ccremove options names) = edits names.items options.expired
needs (Ktcopy options from to) = edits (to ∷ []) false
needs (Hold kind file) = edits (file ∷ []) false
needs (Ktutil options) = record nothing { clock = true; in_place = options.in_place }
needs action = nothing

-- what a line needs; nothing if it was not read
abbrev pub needs_of : Result Action WordFault → Needs
needs_of (Ok action) = needs action
needs_of (Err fault) = nothing

-- a line at a terminal as the output, or typed on one: no image is printed to it, and ktutil prompts for what is typed
abbrev pub at_terminal : Bool → Bool → Result Action WordFault → Result Action WordFault
at_terminal shows types (Ok (Hold kind file)) = Ok (if shows then HoldOnTerminal else Hold kind file)
at_terminal shows types (Ok (Ktutil options)) = Ok (Ktutil (record options { prompts = types }))
at_terminal shows types parsed = parsed

-- the name of a file that a command line leaves out, or why there is none
abbrev pub DefaultName : Type 0
DefaultName = Result FileName WordFault

-- a file, or else the default
abbrev pub file_or : Option FileName → DefaultName → DefaultName
file_or (Some file) default = Ok file
file_or None default = default

-- the files of a line, or else the default one
abbrev pub files_or : List FileName → DefaultName → Result (List FileName) WordFault
files_or (file ∷ files) default = Ok (file ∷ files)
files_or [] default = result_map (λ file. file ∷ []) default

module _ {F R W E : Type 0} (trait : Ghosts F) (old new : World F R W E) (status : ℕ) where
  -- it is reported why the command line was not read, and nothing else is done
  pub record EndsByWords (fault : WordFault) : Type 0 where
    pub same : new ≡ record old { err = new.err }
    pub writes : Writes old.err.to new.err.to (word_text old.err.explains fault)
    pub still : new.err.explains ≡ old.err.explains
    pub status_is : status ≡ word_status fault

  -- a command is run over files, or it is reported why there are none
  abbrev pub RunsOn : (List FileName → Type 0) → Result (List FileName) WordFault → Type 0
  RunsOn OfFiles (Ok names) = OfFiles names
  RunsOn OfFiles (Err fault) = EndsByWords fault

  -- the tickets of a file are checked, which prints nothing; without memory for its name neither
  abbrev pub ChecksTickets : TicketCheck → Option ℕ → DefaultName → Type 0
  ChecksTickets check now (Ok file) = RunsTicketCheck trait file old.files new.files status check now × (new ≡ record old { files = new.files })
  ChecksTickets check now (Err word.NoMemory) = (new ≡ old) × (status ≡ 4)
  ChecksTickets check now (Err fault) = EndsByWords fault

module _ {F R W E : Type 0} (trait : Ghosts F) (old new : World F R W E) (status : ℕ) (now : Option ℕ) (default : DefaultName) where
  -- what an action does over a world: only scripts, the lines of ktutil and what is given back to hold are read from its input
  abbrev pub EndsAction : Action → Type 0
  EndsAction (Klist options names) = RunsOn trait old new status (ListsAll trait options old new status) (files_or names.items default)
  EndsAction (Overview json names) = RunsOn trait old new status (SurveysAll trait json now old new status) (files_or names.items default)
  EndsAction (CheckTicket check names) = ChecksTickets trait old new status check now (file_or (slice_get names.items 0) default)
  EndsAction (Ktfind options file) = Runs trait (always (ktfind_plan options file)) any old new status
  EndsAction (Ktedit order file) = RunsScript trait old new status (ktedit_plan order file) (ktedit_fairly order file) event_in
  EndsAction (Ktcheck options names) = RunsOn trait old new status (λ files. ChecksWith trait options old new status files (aged_by options.older now)) (files_or names.items default)
  EndsAction (Show options names) = RunsOn trait old new status (λ files. ShowsAll trait options.v1_order old new status files now) (files_or names.items default)
  EndsAction (Ktmatch options keytab names) = RunsOn trait old new status (MatchesAll trait options keytab old new status) (files_or names.items default)
  EndsAction (Ktremove options names) = RemovesWith trait Keytab names.items old new status (ktremove_plan options) (needed_time options.selection.kvno now)
  EndsAction (Ktcopy options from to) = Runs trait (always (ktcopy_plan options from to)) any old new status
  EndsAction (Ktdiff options ours others) = Runs trait (always (ktdiff_plan options ours others)) any old new status
  EndsAction (Ktutil options) = RunsKtutil trait options.v1_order options.prompts (unwrap_or now 0) old new status
  EndsAction (Ccedit file) = RunsScript trait old new status (ccedit_plan file) ccedit_fairly cache_line_in
  EndsAction (Ccremove options names) = RemovesWith trait Cache names.items old new status (ccremove_plan options) (ended_by options now)
  EndsAction (Hold kind file) = RunsHold trait old new status kind file
  EndsAction HoldOnTerminal = Prints trait old new status (ends_by OutputIsTerminal)
  EndsAction (Help text) = Prints trait old new status (record { out = string_bytes text; ending = Ok Well })

  -- the action was run, or it was reported why there is none
  abbrev pub EndsParsed : Result Action WordFault → Type 0
  EndsParsed (Ok action) = EndsAction action
  EndsParsed (Err fault) = EndsByWords trait old new status fault
