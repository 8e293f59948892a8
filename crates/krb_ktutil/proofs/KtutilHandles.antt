-- A line was made by its plan, from its steps, and with the entries of a keytab.
use Rattle.krb_ktutil.proofs.Cited.{placed_entries, put_result, Refusal, arith, ◌≡◌, ◌∙◌, sym, ℕ, List, [], ◌∷◌, Some, refl, ap, Result, Ok, Err, EntryParts, KeytabState, Code, Added, with_added, map, option_map, filter_map, entry_at, store_of, entries, RefusesAdded, inl, inr, Bool, false, Ghosts, Ends, LineFault, Effect, Fails, Awaited, KtutilState, Came, fails, line_faults, EndsAt, IsCame, Answer, Loads, by, has_type, EndsLoads, GivesOrIsSpent, AwaitKey, Command, WriteFile, after, asks_for_password, LinePlan, after_fault, command_plan, words_plan, writing_plan, Attempts, Comes, MakesLine, RunsOut, Tries, Record, records, LineRefusal, Reads, RunError, fault_error, TurnsHold}
use Rattle.krb_wire.specs.declared.format.KtFormat.{KtFormat}
use Rattle.krb_keytab.specs.Find.{PlacedEntry}
use Rattle.krb_walk.specs.Rules.{PutGives}
use Rattle.krb_files.specs.declared.files.LoadFault.TheVariants as load
use Rattle.krb_text.specs.declared.line_fault.LineRefusal.TheVariants as refusal
use Rattle.krb_driver.specs.declared.error.RunError.TheVariants as error
use Rattle.krb_ktutil.specs.declared.ktutil.line.Line.{Line}

-- placed entries without their places
abbrev pub entries_of : List PlacedEntry → List EntryParts
entries_of xs = map (λ x. x.1) xs

entries_placed : (f : KtFormat) (rs : List Record) → entries_of (filter_map (λ (r : Record). option_map (λ (e : EntryParts). (r.place, e)) (entry_at f r.bytes)) rs) ≡ filter_map (λ (r : Record). entry_at f r.bytes) rs
entries_placed f [] = refl
entries_placed f (r ∷ rs) = grind (arith, entries_placed f rs)

-- the entries of a keytab are its placed entries without their places
pub all_entries : (k : KeytabState) → entries_of (placed_entries k) ≡ entries k
all_entries k = entries_placed k.format (records (store_of k))

-- the refusal of the first entry is that of all entries
pub refuses_added : (e : EntryParts) (es : List EntryParts) (x : Added) (k' : KeytabState) (r : Refusal) (all : Result Added Code) → PutGives (put_result x.keytab e) x.keytab (Err r) k' → with_added (e ∷ es) (Ok x) ≡ all → RefusesAdded all r
refuses_added e es x k' r all gives is = grind (arith, gives)

-- ---- a line was made by its plan, from its steps

-- the words after the command are refused
pub attempts_refused : (A : Type 0) (s : KtutilState) (number : ℕ) (given : Result Awaited LineFault) (refused : LineRefusal) → Reads (λ (x : Awaited). x) given (Err refused) → Attempts {A = A} s number (after (λ awaited. Ok (AwaitKey awaited)) given) s (Err refused)
attempts_refused A s number given refused reads = grind arith

-- memory ran out
ran_out : {s new : KtutilState} {effect : Effect} {quits : Bool} → (r : RunsOut s new effect quits) → IsCame (fails s r.spent.0 error.NoMemory) new effect quits
ran_out r = record { state_is = r.state_is; effect_is = r.spent.1; quits_is = r.goes_on }

module _ {F : Type 0} (trait : Ghosts F) where
  -- a plan that loads no file
  pub makes_end : (plan : LinePlan) (files : F) (old new : KtutilState) (effect : Effect) (quits : Bool) → EndsAt plan old new effect quits → MakesLine trait plan files files old new effect quits
  makes_end (Ends came) files old new effect quits (inl is) = record { answers = []; loads = (refl, refl); came = came; made = inl refl; is = is }
  makes_end (Ends came) files old new effect quits (inr out) = record { answers = []; loads = (refl, refl); came = fails old out.1.spent.0 error.NoMemory; made = inr (out.0, (out.1.spent.0, refl)); is = ran_out out.1 }
  makes_end plan files old new effect quits e = absurd e

  -- what is written under a name without a type is held
  pub makes_held : (s : KtutilState) (number : ℕ) (word : List ℕ) (files between new : F) (effect : Effect) (quits : Bool) → has_type word ≡ false → TurnsHold trait (Some word) files between → MakesLine trait (writing_plan s number word) between new s s effect quits → MakesLine trait (command_plan s number (WriteFile word)) files new s s effect quits
  makes_held s number word files between new effect quits typed turns makes = rw typed (record { answers = makes.answers; loads = inr (between, (turns, makes.loads)); came = makes.came; made = makes.made; is = makes.is })

  -- a load, and what was made of what it gave, or of its error
  pub makes_given : (s new : KtutilState) (name : List ℕ) (came : Result KeytabState RunError → Came) → ((why : RunError) → came (Err why) ≡ fails s name why)
      → (gives : Answer → Result KeytabState RunError) → EndsLoads gives → (files between : F) (given : Result KeytabState RunError) (effect : Effect) (quits : Bool)
      → GivesOrIsSpent trait files name gives given between → Comes (came given) s new effect quits → MakesLine trait (Loads name (λ answer. Ends (came (gives answer)))) files between s new effect quits
  makes_given s new name came failed gives ends files between given effect quits gave comes =
      let unread : came (gives (Err load.Failed)) ≡ fails s name error.FileNotRead = ap came ends.failed ∙ failed error.FileNotRead in
      let spent : came (gives (Err load.NoMemory)) ≡ fails s name error.NoMemory = ap came ends.spent ∙ failed error.NoMemory in
      let by_answer : by (line_faults s) (Loads name (λ answer. Ends (came (gives answer)))) (gave.answer ∷ []) ≡ came (gives gave.answer) = grind arith in
      let made : Comes (came (gives gave.answer)) s new effect quits = grind (arith, gave.gives, comes, failed) in
      elim made [
        | inl is ↦ record { answers = gave.answer ∷ []; loads = (between, (gave.loads, (refl, refl))); came = came (gives gave.answer); made = inl (sym by_answer); is = is }
        | inr out ↦ record { answers = gave.answer ∷ []; loads = (between, (gave.loads, (refl, refl))); came = fails s out.spent.0 error.NoMemory; made = inr (refl, (out.spent.0, refl)); is = ran_out out }
      ]

  -- ---- commands

  pub tries_end : {A : Type 0} (given : Result Command LineFault) (files : F) (old new : KtutilState) (number : ℕ) (made : Result (Line A) LineRefusal) → Attempts old number given new made → Tries trait files files old number given new made
  tries_end given files old new number made a = grind (arith, makes_end, a)

  -- the words of a line have a fault
  pub tried_fault : (A : Type 0) (files files' : F) (old new : KtutilState) (number : ℕ) (line : List (List ℕ)) (given : Result Command LineFault) (fault : LineFault) (effect : Effect) (quits : Bool) (mid : KtutilState) → Tries {A = A} trait files files' old number given mid (Err (refusal.Fault fault))
      → new ≡ after_fault (asks_for_password line) mid → effect ≡ Fails [] (fault_error number line fault) → quits ≡ false → MakesLine trait (words_plan old number line given) files files' old new effect quits
  tried_fault A files files' old new number line given fault effect quits mid t after_is effect_is quits_is = grind (arith, t, makes_end)

-- what is written to a file that is held
pub ruleset writes = (makes_end, makes_held)
