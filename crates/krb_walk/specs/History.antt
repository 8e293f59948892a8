-- Histories: events one after the other, each with its reply.
use Rattle.std.specs.Prelude.{◌≡◌, ℕ, suc, Bool, false, cond, ◌&&◌, ◌==◌, List, [], ◌∷◌, ◌++◌, map, Some, is_some, slice_get, ◌≤◌, length, take}
use Rattle.krb_walk.specs.declared.event.Event.{Event}
use Rattle.krb_walk.specs.declared.event.Event.TheVariants.{Step}
use Rattle.krb_walk.specs.Store.{Store, Record, IsPlace, IsSound}
use Rattle.krb_walk.specs.Changes.{Changes}
use Rattle.krb_walk.specs.ReplyContent.{ReplyContent, Gave, is_rewritten}
use Rattle.krb_walk.specs.Rules.{Rules}
use Rattle.krb_walk.specs.Events.{SessionState, reply_to, after}
use Rattle.krb_walk.specs.declared.stop.Stop.{Stop}
use Rattle.krb_walk.specs.declared.stop.Stop.TheVariants.{Live, End, Fault as AtFault}

-- a moment of a history: an event with its reply, and the states before and after it
pub record Moment (S I : Type 0) : Type 0 where
  pub before : SessionState S
  pub event : Event I
  pub reply : ReplyContent
  pub after : SessionState S

-- the moment of an event in a state
abbrev pub moment : {S I : Type 0} → Rules S I → SessionState S → Event I → Moment S I
moment r s e = record { before = s; event = e; reply = reply_to r s e; after = after r s e }

-- the history of events from a state
abbrev pub history : {S I : Type 0} → Rules S I → SessionState S → List (Event I) → List (Moment S I)
history r s [] = []
history r s (e ∷ es) = moment r s e ∷ history r (after r s e) es

-- the replies of a history
abbrev pub replies : {S I : Type 0} → List (Moment S I) → List ReplyContent
replies h = map (λ m. m.reply) h

-- the state after events
abbrev pub state_after : {S I : Type 0} → Rules S I → SessionState S → List (Event I) → SessionState S
state_after r s [] = s
state_after r s (e ∷ es) = state_after r (after r s e) es

-- at a moment the store changes as the reply allows
abbrev pub IsLawful : {S I : Type 0} → Rules S I → Moment S I → Type 0
IsLawful r m = Changes m.reply (r.seen m.before.store) (r.seen m.after.store)

-- at each moment of a history the store changes as the reply allows
abbrev pub AllLawful : {S I : Type 0} → Rules S I → List (Moment S I) → Type 0
AllLawful r [] = Unit {0}
AllLawful r (m ∷ ms) = IsLawful r m × AllLawful r ms

-- a history in which no event rewrites the store
abbrev pub AllPlain : {S I : Type 0} → List (Moment S I) → Type 0
AllPlain [] = Unit {0}
AllPlain (m ∷ ms) = (is_rewritten m.reply ≡ false) × AllPlain ms

-- the cells take up places, and each cursor is a place of the store
pub record IsReady {S I : Type 0} (r : Rules S I) (s : SessionState S) : Type 0 where
  pub sound : IsSound (r.seen s.store)
  pub cursors : (w c : ℕ) → slice_get s.cursors w ≡ Some c → IsPlace (r.seen s.store) c

-- a history begins in a ready state, and changes the store as its replies allow
pub record IsRun {S I : Type 0} (r : Rules S I) (s : SessionState S) (events : List (Event I)) : Type 0 where
  pub ready : IsReady r s
  pub lawful : AllLawful r (history r s events)

-- the store after events, as a store
abbrev pub last_store : {S I : Type 0} → Rules S I → SessionState S → List (Event I) → Store
last_store r s events = r.seen (state_after r s events).store

-- a row: the number of an event, and the record that it gives, as the record was just before
pub record Row : Type 0 where
  pub event : ℕ
  pub stood : Record

-- what the reply to event n gives to walk w
abbrev pub rows_of_reply : ℕ → ℕ → ReplyContent → List Row
rows_of_reply w n (Gave v p next bytes) = cond (v == w) (record { event = n; stood = record { place = p; next = next; bytes = bytes } } ∷ []) []
rows_of_reply w n other = []

-- what walk w is given by replies to events numbered from n
abbrev pub given_from : {S I : Type 0} → ℕ → ℕ → List (Moment S I) → List Row
given_from n w [] = []
given_from n w (m ∷ ms) = rows_of_reply w n m.reply ++ given_from (suc n) w ms

-- what a walk is given by a history: a row for each reply that gives it a record, the events numbered from 1
abbrev pub given : {S I : Type 0} → ℕ → List (Moment S I) → List Row
given w h = given_from 1 w h

-- an event is a step of walk w
abbrev pub is_step : {I : Type 0} → ℕ → Event I → Bool
is_step w (Step v) = v == w
is_step w e = false

-- an event is a step of walk w, which exists
abbrev pub steps_walk : {S I : Type 0} → SessionState S → Event I → ℕ → Bool
steps_walk s e w = is_step w e && is_some (slice_get s.cursors w)

-- ---- how a session keeps its state: for private contracts alone

-- the place after a stop
abbrev pub place_after : Stop → ℕ
place_after (Live p next) = next
place_after (End next) = next
place_after (AtFault fault) = fault.place

-- the cursors are the first `count` elements of a table of 1,024
pub record IsKept {S I : Type 0} (r : Rules S I) (store : S) (table : List ℕ) (count : ℕ) : Type 0 where
  pub few : count ≤ 1024
  pub room : length table ≡ 1024
  pub ready : IsReady r (record { store = store; cursors = take count table })
