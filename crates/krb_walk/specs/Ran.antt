-- What a session did in a run of events.
use Rattle.std.specs.Prelude.{◌≡◌, ℕ, ◌<◌, List, ◌++◌, length, take, Some}
use Rattle.krb_walk.specs.declared.event.Event.{Event}
use Rattle.krb_walk.specs.declared.fault.FaultKind.{FaultKind}
use Rattle.krb_walk.specs.ReplyContent.{ReplyContent}
use Rattle.krb_walk.specs.Rules.{Rules}
use Rattle.krb_walk.specs.Events.{SessionState}
use Rattle.krb_walk.specs.History.{IsReady, IsRun, history, replies, state_after, given}
use Rattle.krb_walk.specs.Track.{PlacesStay, track_of}
use Rattle.krb_walk.specs.Due.{due_over, due_by_steps}
use Rattle.krb_walk.specs.Fair.{IsFair}
use Rattle.krb_walk.specs.Damage.{RefusesChanges}

-- events were run over a session, which went from `old` to `new`: the replies are those of the history, and every walk is given what is due to it
pub record Ran {S I : Type 0} (r : Rules S I) (old new : SessionState S) (events : List (Event I)) (old_replies new_replies : List ReplyContent) : Type 0 where
  pub replies_are : new_replies ≡ old_replies ++ replies (history r old events)
  pub state : new ≡ state_after r old events
  pub run : IsRun r old events
  pub is_ready : IsReady r new
  pub given_is_due : (w : ℕ) → given w (history r old events) ≡ due_by_steps (track_of r old events w)
  pub given_is_due_at_places : (w : ℕ) → PlacesStay (track_of r old events w) → given w (history r old events) ≡ due_over (track_of r old events w) (r.seen new.store)
  pub fair : (w : ℕ) → IsFair (track_of r old events w) (r.seen new.store)
  pub damaged_refuses : (kind : FaultKind) → (r.seen old.store).fault ≡ Some kind → RefusesChanges r old events

-- a run that ran out of memory: a run of the events before one of them
pub record RanSome {S I : Type 0} (r : Rules S I) (old new : SessionState S) (events : List (Event I)) (old_replies new_replies : List ReplyContent) : Type 0 where
  pub done : ℕ
  pub fewer : done < length events
  pub ran : Ran r old new (take done events) old_replies new_replies
