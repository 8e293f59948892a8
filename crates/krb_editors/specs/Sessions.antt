-- What a session does to a store, what is saved and printed after it, and what a script asks for.
use Rattle.std.specs.Prelude.{◌≡◌, ℕ, Bool, true, false, List, [], ◌∷◌, ◌==◌, nat_lt, not, length, filter, map, if◌then◌else◌, Option, ◌⊎◌, Result, Ok, Err}
use Rattle.std.specs.List.{list_any}
use Rattle.krb_walk.specs.declared.event.Event.{Event}
use Rattle.krb_walk.specs.declared.event.Event.TheVariants.{Rewrite}
use Rattle.krb_walk.specs.History.{Moment, history, replies, state_after}
use Rattle.krb_walk.specs.Ranks.{carry, nth_or}
use Rattle.krb_walk.specs.ReplyContent.{ReplyContent, Placed, Gone, Rewritten}
use Rattle.krb_walk.specs.Rules.{Rules}
use Rattle.krb_walk.specs.Store.{Store}
use Rattle.krb_walk.specs.declared.event.Event.TheVariants as event
use Rattle.krb_walk.specs.Events.{SessionState}
use Rattle.krb_walk.specs.Ran.{Ran}
use Rattle.krb_driver.specs.declared.verdict.FileKind.{FileKind}
use Rattle.krb_driver.specs.declared.error.RunError.{RunError}
use Rattle.krb_driver.specs.declared.command.World.{World}
use Rattle.krb_driver.specs.Commands.{Ghosts, Effect, Displays, Saves, text, RunsWith, CommandPlan}
use Rattle.krb_driver.specs.Reported.{replied_verdict}
use Rattle.krb_driver.specs.RunErrors.{LoadFault, LineFault, hiding, input_error, line_error}
use Rattle.krb_files.specs.Loading.{Answer, most_bytes}
use Rattle.krb_files.specs.Bytes.{Source}
use Rattle.krb_keytab_text.specs.Script.{script_by}
use Rattle.krb_driver.specs.declared.error.RunError.TheVariants.{NoMemory}
use Rattle.krb_driver.specs.Loading.{GivesInput, result_map_err}

-- the places of the entries that a session added, after a reply between two stores: an addition adds its place, a removal takes its place away, and a rewrite moves all
abbrev pub places_after : Store → Store → ReplyContent → List ℕ → List ℕ
places_after old new (Placed p) places = p ∷ places
places_after old new (Gone p) places = filter (λ q. not (q == p)) places
places_after old new (Rewritten end) places = map (carry old new) places
places_after old new other places = places

module _ {S I : Type 0} (rules : Rules S I) where
  -- the places of added entries after a moment of a session
  abbrev pub followed_past : Moment S I → List ℕ → List ℕ
  followed_past m places = places_after (rules.seen m.before.store) (rules.seen m.after.store) m.reply places

  -- the places of added entries after the moments of a session
  abbrev pub followed_over : List ℕ → List (Moment S I) → List ℕ
  followed_over places [] = places
  followed_over places (m ∷ ms) = followed_over (followed_past m places) ms

-- ---- for private contracts

-- an event that asks for a rewrite
abbrev pub is_rewrite : {I : Type 0} → Event I → Bool
is_rewrite Rewrite = true
is_rewrite event = false

-- where a rewrite carries a place, by the live places before and after it, and its end
abbrev pub carry_by : List ℕ → List ℕ → ℕ → ℕ → ℕ
carry_by before after end p = nth_or end after (length (filter (λ q. nat_lt q p) before))

-- the same numbers are in two lists: what a test finds in one of them, it finds in the other
pub record HaveSame (xs ys : List ℕ) : Type 0 where
  pub finds : (test : ℕ → Bool) → list_any test xs ≡ list_any test ys

-- ---- what a new session does to a store, and what is saved and printed after it

-- an event may change a store: an addition, a removal or a rewrite
abbrev pub may_change : {I : Type 0} → Event I → Bool
may_change (event.Put item) = true
may_change (event.Cut place) = true
may_change event.Rewrite = true
may_change event = false

-- a reply reports a change of the store
abbrev pub is_change : ReplyContent → Bool
is_change (Placed place) = true
is_change (Gone place) = true
is_change (Rewritten end) = true
is_change other = false

-- what a session comes to: the image is saved if a reply reports a change, and the lines are printed; the end reports failures, and an added entry that MIT's programs do not see
abbrev pub replied : FileKind → List ℕ → Option ℕ → List ReplyContent → List ℕ → List ℕ → Effect
replied kind file hidden reported image lines =
    let verdict = hiding hidden (replied_verdict kind reported) in
    if list_any is_change reported then Saves file image lines verdict else Displays file (text lines verdict)

-- a new session over a store
abbrev pub new_session : {S : Type 0} → S → SessionState S
new_session store = record { store = store; cursors = [] }

module _ {S I : Type 0} (rules : Rules S I) (store : S) (events : List (Event I)) where
  -- the moments of a new session over a store: each event with its reply
  abbrev pub moments : List (Moment S I)
  moments = history rules (new_session store) events

  -- the store that a new session's events leave
  abbrev pub left : S
  left = (state_after rules (new_session store) events).store

  -- the places of the entries that a new session's events added
  abbrev pub added : List ℕ
  added = followed_over rules [] moments

  -- events were run in a new session over a store, and every walk was given what is due to it
  abbrev pub RunsFairly : Type 0
  RunsFairly = Ran rules (new_session store) (state_after rules (new_session store) events) events [] (replies moments)

-- what a session over a file saves and prints: the store is saved if a reply reports a change, and the lines of replies are printed
abbrev pub session_effect : {S I : Type 0} → FileKind → Rules S I → (S → List ℕ) → (List ReplyContent → List ℕ) → Option ℕ → List ℕ → S → List (Event I) → Effect
session_effect kind rules image lines hidden file store events =
    let reported = replies (moments rules store events) in
    replied kind file hidden reported (image (left rules store events)) (lines reported)

-- ---- a run whose lines come from a script

module _ {L : Type 0} (reads : List ℕ → Result L LineFault) where
  -- the lines that an input has, or the error: of the input, or of the first faulty line
  abbrev pub lines_in : Result (List ℕ) LoadFault → Result (List L) RunError
  lines_in (Ok text) = result_map_err (λ fault. line_error text fault.line fault.kind) (script_by reads text)
  lines_in (Err fault) = Err (input_error fault)

  -- `given` is the lines that a reader gave, from `reader` to `reader'`, or the error, or that memory ran out
  pub record GivesLines (reader reader' : Source) (given : Result (List L) RunError) : Type 0 where
    pub input : Result (List ℕ) LoadFault
    pub read : GivesInput most_bytes reader reader' input
    pub given_is : (given ≡ Err NoMemory) ⊎ (given ≡ lines_in input)

-- a run of a script took the world from `old` to `new` with this status: its lines were read from the input, and the plan was run with them
pub record RunsScript {F R W E L : Type 0} (trait : Ghosts F) (old new : World F R W E) (status : ℕ) (plan : List L → CommandPlan) (fairly : List L → List Answer → Type 0) (reads : List ℕ → Result L LineFault) : Type 0 where
  pub input : Source
  pub lines : Result (List L) RunError
  pub given : GivesLines reads old.input input lines
  pub runs : RunsWith trait (record old { input = input }) new status plan fairly lines
