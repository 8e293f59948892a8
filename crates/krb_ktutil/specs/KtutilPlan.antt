-- What a line comes to, and what it does to the files.
use Rattle.std.specs.Prelude.{ℕ, ◌-◌, ◌==◌, Bool, true, false, List, [], ◌∷◌, ◌++◌, length, remove, Option, None, Some, is_some, Result, Ok, Err, if◌then◌else◌, ◌≡◌, ◌⊎◌, IsTrue}
pub use Rattle.krb_wire.specs.declared.format.Order.{Order}
use Rattle.krb_walk.specs.declared.refusal.Code.TheVariants as code
use Rattle.krb_walk.specs.Store.{fault_of}
pub use Rattle.krb_keytab.specs.Entry.{EntryParts}
pub use Rattle.krb_keytab.specs.Store.{KeytabState, image_of, store_of, entries}
pub use Rattle.krb_keytab.specs.Find.{placed_entries}
pub use Rattle.krb_keytab.specs.Changes.{put_result}
pub use Rattle.krb_files.specs.Plan.{Plan, Ends, Holds, Loads, Faults, Loaded, by}
use Rattle.krb_text.specs.declared.line_fault.LineFault.TheVariants.{BadKey}
pub use Rattle.krb_ktutil.specs.declared.ktutil.awaiting.Awaiting.{Awaiting}
pub use Rattle.krb_ktutil.specs.declared.ktutil.awaiting.Awaiting.TheVariants.{Nothing, Key, Password}
use Rattle.krb_driver.specs.declared.error.RunError.TheVariants as error
use Rattle.krb_driver.specs.declared.file_name.NameSource.TheVariants.{Word}
pub use Rattle.krb_driver.specs.declared.verdict.FileKind.TheVariants.{Keytab}
use Rattle.krb_driver.specs.declared.verdict.Verdict.TheVariants.{Well, NoEntry}
pub use Rattle.krb_driver.specs.Commands.{Effect, Fails, Displays, Saves, text, IsSpent, Ghosts, Answer}
use Rattle.krb_driver.specs.Composing.{text_effect}
pub use Rattle.krb_driver.specs.FileNames.{bare_name, has_type, is_other_type}
pub use Rattle.krb_driver.specs.Loading.{keytab_in, keytab_or_empty, result_map}
pub use Rattle.krb_driver.specs.RunErrors.{hiding, Code, LineFault}
use Rattle.krb_driver.specs.declared.verdict.Verdict.{Verdict}
use Rattle.krb_audit.specs.Findings.{hides_added}
use Rattle.krb_keytab_text.specs.Listing.{slot_text}
use Rattle.krb_text.specs.Word.{key_word}
pub use Rattle.krb_ktutil.specs.KtutilCommand.{RunError, key_prompt, fault_error, is_word, trimmed, words, Awaited, Command, Skip, ListSlots, ReadFile, WriteFile, AwaitKey, DeleteSlot, ClearList, Quit, asks_for_password, command_of}
pub use Rattle.krb_walk.specs.declared.refusal.Refusal.{Refusal}
use Rattle.krb_walk.specs.declared.refusal.Refusal.TheVariants as refusal
use Rattle.krb_files.specs.Files.{CountsFailure}
pub use Rattle.krb_text.specs.declared.line_fault.LineRefusal.{LineRefusal}
use Rattle.krb_text.specs.declared.line_fault.LineRefusal.TheVariants as line
use Rattle.krb_ktutil.specs.declared.ktutil.line.Line.{Line}

-- a list of entries, what is awaited, and the byte order of version 1 keytabs
pub record KtutilState : Type 0 where
  pub order : Order
  pub entries : List EntryParts
  pub awaiting : Awaiting Awaited

-- a key or a password is awaited
abbrev pub is_pending : {K : Type 0} → Awaiting K → Bool
is_pending Nothing = false
is_pending awaiting = true

-- the entry that awaits its key
abbrev pub awaited_entry : {K : Type 0} → Awaiting K → Option K
awaited_entry (Key x) = Some x
awaited_entry awaiting = None

-- what a line of ktutil comes to: the list after it, its effect, whether it is the last line, and whether it takes memory
pub record Came : Type 0 where
  pub state : KtutilState
  pub effect : Effect
  pub quits : Bool
  pub takes : Bool

abbrev pub LinePlan : Type 0
LinePlan = Plan Came

-- the line prints a text, and `s` is the list
abbrev pub prints : KtutilState → List ℕ → Came
prints s out = record { state = s; effect = Displays [] (text out Well); quits = false; takes = false }

abbrev pub becomes : KtutilState → Came
becomes s = prints s []

-- the line prints nothing, takes memory, and `s` is the list
abbrev pub grows_to : KtutilState → Came
grows_to s = record (becomes s) { takes = true }

-- the line ends with an error, and `s` is the list
abbrev pub fails : KtutilState → List ℕ → RunError → Came
fails s file why = record { state = s; effect = Fails file why; quits = false; takes = false }

-- what a line of ktutil comes to where its file is not read, or memory runs out
abbrev pub line_faults : KtutilState → Faults Came
line_faults s = record { unread = λ name. fails s name error.FileNotRead; spent = λ name. fails s name error.NoMemory }

-- ---- files

-- what `read_kt` comes to: the entries of a keytab are appended to the list, unless the keytab is damaged
abbrev pub with_entries : KtutilState → ℕ → List ℕ → Result KeytabState RunError → Came
with_entries s number name (Err why) = fails s name why
with_entries s number name (Ok k) =
    if is_some (fault_of (store_of k)) then fails s name (error.LineRefused number code.Damaged)
    else grows_to (record s { entries = s.entries ++ entries k })

-- a keytab, and the places of the entries that were added to it
pub record Added : Type 0 where
  pub keytab : KeytabState
  pub places : List ℕ

-- the verdict of `wkt`: well, no entry, or an added entry hidden from MIT's programs from a place on
abbrev pub saved_verdict : Added → Verdict
saved_verdict x = if length (placed_entries x.keytab) == 0 then NoEntry else hiding (hides_added x.keytab x.places) Well

abbrev pub none_added : KeytabState → Added
none_added k = record { keytab = k; places = [] }

-- a keytab with entries added one after the other, or the first refusal
abbrev pub with_added : List EntryParts → Result Added Code → Result Added Code
with_added es (Err refused) = Err refused
with_added [] (Ok x) = Ok x
with_added (e ∷ es) (Ok x) = with_added es (result_map (λ given. record { keytab = given.1; places = x.places ++ given.0 ∷ [] }) (put_result x.keytab e))

-- the keytab is saved under the name, or the line ends with the refusal
abbrev pub saved_as : KtutilState → ℕ → List ℕ → Result Added Code → Came
saved_as s number name (Ok x) = record { state = s; effect = Saves name (image_of x.keytab) [] (saved_verdict x); quits = false; takes = true }
saved_as s number name (Err refused) = fails s name (error.LineRefused number refused)

-- the entries of the list are added to a keytab, and the keytab is saved
abbrev pub written_to : KtutilState → ℕ → List ℕ → Result KeytabState RunError → Came
written_to s number name (Ok k) = saved_as s number name (with_added s.entries (Ok (none_added k)))
written_to s number name (Err why) = fails s name why

-- ---- a key

-- the key in a line that ktutil awaited
abbrev pub key_line : ℕ → List ℕ → Result (List ℕ) LineFault
key_line enctype line = if is_word (trimmed line) then key_word enctype (trimmed line) else Err BadKey

-- the entry that awaited its key, with the time `now`
abbrev pub entry_of : Awaited → ℕ → List ℕ → EntryParts
entry_of x now key = record { principal = x.principal; timestamp = now; version = x.version; enctype = x.enctype; key = key }

-- what the line of a key comes to: the entry is appended to the list, or dropped if the key is faulty
abbrev pub with_key : KtutilState → ℕ → List (List ℕ) → Awaited → ℕ → Result (List ℕ) LineFault → Came
with_key s number line x now (Ok key) = grows_to (record s { entries = s.entries ++ entry_of x now key ∷ []; awaiting = Nothing })
with_key s number line x now (Err fault) = fails (record s { awaiting = Nothing }) [] (fault_error number line fault)

-- ---- a line

-- the list is added to the keytab of a file
abbrev pub writing_plan : KtutilState → ℕ → List ℕ → LinePlan
writing_plan s number name = Loads name (λ answer. Ends (written_to s number name (keytab_or_empty s.order false answer)))

-- what ktutil awaits after a faulty line: a password, if the line asks for one
abbrev pub after_fault : Bool → KtutilState → KtutilState
after_fault asks s = record s { awaiting = if asks then Password else s.awaiting }

-- the plan of a command on a line of ktutil: names of files may have a type where a file is read, and not where one is written
abbrev pub command_plan : KtutilState → ℕ → Command → LinePlan
command_plan s number Skip = Ends (becomes s)
command_plan s number (ListSlots columns) = Ends (record (prints s (slot_text columns s.entries)) { takes = true })
command_plan s number (ReadFile word) =
    if is_other_type Keytab word then Ends (fails s (bare_name Keytab word) (error.OtherType Keytab Word)) else Loads (bare_name Keytab word) (λ answer. Ends (with_entries s number (bare_name Keytab word) (keytab_in s.order answer)))
command_plan s number (WriteFile word) =
    if has_type word then Ends (fails s word error.TypedName) else Holds true word (writing_plan s number word)
command_plan s number (AwaitKey awaited) = Ends (grows_to (record s { awaiting = Key awaited }))
command_plan s number (DeleteSlot slot) = Ends (becomes (record s { entries = remove s.entries (slot - 1) }))
command_plan s number ClearList = Ends (becomes (record s { entries = [] }))
command_plan s number Quit = Ends (record (becomes s) { quits = true })

-- the plan of a line of ktutil by its words, or by its fault
abbrev pub words_plan : KtutilState → ℕ → List (List ℕ) → Result Command LineFault → LinePlan
words_plan s number line (Ok command) = command_plan s number command
words_plan s number line (Err fault) = Ends (fails (after_fault (asks_for_password line) s) [] (fault_error number line fault))

-- the plan of a line of ktutil: a key or a password where one is awaited, and else a command; a password is passed over
abbrev pub plan_by : KtutilState → ℕ → ℕ → List ℕ → Awaiting Awaited → LinePlan
plan_by s now number line Nothing = words_plan s number (words line) (command_of line (length s.entries))
plan_by s now number line (Key x) = Ends (with_key s number (words line) x now (key_line x.enctype line))
plan_by s now number line Password = Ends (becomes (record s { awaiting = Nothing }))

abbrev pub plan_of : KtutilState → ℕ → ℕ → List ℕ → LinePlan
plan_of s now number line = plan_by s now number line s.awaiting

-- a plan takes memory; a file call may take some
abbrev pub takes_memory : LinePlan → Bool
takes_memory (Ends came) = came.takes
takes_memory plan = true

-- ---- what the code of a line of ktutil made of the files, honest or not

-- an addition was refused with this code, or memory ran out
abbrev pub RefusesAdded : Result Added Code → Refusal → Type 0
RefusesAdded added (refusal.Code refused) = added ≡ Err refused
RefusesAdded added refusal.NoMemory = Unit {0}

-- the effect of what was made
abbrev pub line_effect : {A : Type 0} → Line A → Effect
line_effect made = text_effect made.file.now made.made

-- a list, an effect and whether the line is the last are those that a line of ktutil comes to
pub record IsCame (came : Came) (state : KtutilState) (effect : Effect) (quits : Bool) : Type 0 where
  pub state_is : state ≡ came.state
  pub effect_is : effect ≡ came.effect
  pub quits_is : quits ≡ came.quits

-- memory ran out, and the list stays
pub record RunsOut (old new : KtutilState) (effect : Effect) (quits : Bool) : Type 0 where
  pub state_is : new ≡ old
  pub spent : IsSpent effect
  pub goes_on : quits ≡ false

-- what is due was made, or memory ran out
abbrev pub Comes : Came → KtutilState → KtutilState → Effect → Bool → Type 0
Comes came old new effect quits = IsCame came new effect quits ⊎ RunsOut old new effect quits

-- a line that loads no file made what is due, or memory ran out if it takes some
abbrev pub EndsAt : LinePlan → KtutilState → KtutilState → Effect → Bool → Type 0
EndsAt (Ends came) old new effect quits = IsCame came new effect quits ⊎ (IsTrue came.takes × RunsOut old new effect quits)
EndsAt plan old new effect quits = ⊥

-- a line of ktutil was made by its plan, which took the files from `files` to `files'` and the list from `old` to `new`; or memory ran out
pub record MakesLine {F : Type 0} (trait : Ghosts F) (plan : LinePlan) (files files' : F) (old new : KtutilState) (effect : Effect) (quits : Bool) : Type 0 where
  pub answers : List Answer
  pub loads : Loaded trait plan files answers files'
  pub came : Came
  pub made : (came ≡ by (line_faults old) plan answers) ⊎ (IsTrue (takes_memory plan) × ((file : List ℕ) × (came ≡ fails old file error.NoMemory)))
  pub is : IsCame came new effect quits

-- what is due of a line of ktutil was made; or a file was not read, which is counted, or memory ran out
abbrev pub ComesDue : {F : Type 0} → Ghosts F → Came → F → F → KtutilState → Effect → Bool → Type 0
ComesDue trait due files files' new effect quits =
    IsCame due new effect quits
    ⊎ ((CountsFailure (trait.failure_count files) (trait.failure_count files') × ((file : List ℕ) × (effect ≡ Fails file error.FileNotRead)))
    ⊎ IsSpent effect)

-- a line of ktutil that fails leaves the entries, one that saves leaves the list, and printing a page takes no memory
abbrev pub Spares : KtutilState → KtutilState → Effect → Type 0
Spares old new (Fails file why) = (new.entries ≡ old.entries) × (why ≡ error.NoMemory → new ≡ old)
Spares old new (Displays file page) = page.takes ≡ false
Spares old new (Saves file bytes out verdict) = new ≡ old

-- a command over the list alone was done, or memory ran out of it, or its words have a fault
abbrev pub Attempts : {A : Type 0} → KtutilState → ℕ → Result Command LineFault → KtutilState → Result (Line A) LineRefusal → Type 0
Attempts old number (Ok command) new (Ok made) = EndsAt (command_plan old number command) old new (line_effect made) made.quits
Attempts old number (Ok command) new (Err line.NoMemory) = EndsAt (command_plan old number command) old new (Fails [] error.NoMemory) false
Attempts old number (Ok command) new (Err (line.Fault fault)) = ⊥
Attempts old number (Err fault) new made = (new ≡ old) × (made ≡ Err (line.Fault fault))

-- a command was done, or memory ran out of it, or its words have a fault
abbrev pub Tries : {F A : Type 0} → Ghosts F → F → F → KtutilState → ℕ → Result Command LineFault → KtutilState → Result (Line A) LineRefusal → Type 0
Tries trait files files' old number (Ok command) new (Ok made) = MakesLine trait (command_plan old number command) files files' old new (line_effect made) made.quits
Tries trait files files' old number (Ok command) new (Err line.NoMemory) = MakesLine trait (command_plan old number command) files files' old new (Fails [] error.NoMemory) false
Tries trait files files' old number (Ok command) new (Err (line.Fault fault)) = ⊥
Tries trait files files' old number (Err fault) new made = (files' ≡ files) × (new ≡ old) × (made ≡ Err (line.Fault fault))
