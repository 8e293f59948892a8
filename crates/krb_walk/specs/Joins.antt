-- Joined runs: a walk continues in the next run over the same store.
use Rattle.std.specs.Prelude.{◌≡◌, ◌⊎◌, ℕ, suc, false, List, ◌∷◌, ◌++◌, length, Option, Some, slice_get}
use Rattle.std.specs.List.{AllByRecursion}
use Rattle.krb_walk.specs.declared.event.Event.{Event}
use Rattle.krb_walk.specs.declared.event.Event.TheVariants.{Resume}
use Rattle.krb_walk.specs.ReplyContent.{Started, is_rewritten}
use Rattle.krb_walk.specs.Store.{Store}
use Rattle.krb_walk.specs.Rules.{Rules}
use Rattle.krb_walk.specs.Events.{SessionState, reply_to}
use Rattle.krb_walk.specs.History.{Moment, IsRun, state_after, last_store, history}
use Rattle.krb_walk.specs.Track.{Track, first_names, last_names, last_cursor, track_of, track_on}

-- a walk is resumed at a place, after any other events, none of which rewrites the store
pub record Resumes {S I : Type 0} (r : Rules S I) (s : SessionState S) (events : List (Event I)) (w c : ℕ) : Type 0 where
  pub earlier : List (Event I)
  pub later : List (Event I)
  pub events_are : events ≡ earlier ++ Resume c ∷ later
  pub content : reply_to r (state_after r s earlier) (Resume c) ≡ Started w c
  pub plain : AllByRecursion (λ m. is_rewritten m.reply ≡ false) (history r s earlier)

-- a walk continues at a place: it is there already, or it is resumed there
abbrev pub IsThereOrResumes : {S I : Type 0} → Rules S I → SessionState S → List (Event I) → ℕ → ℕ → Type 0
IsThereOrResumes r s events w c = (slice_get s.cursors w ≡ Some c) ⊎ Resumes r s events w c

-- a run over the last store of a track, in which walk v continues at the last cursor of the track's walk
pub record Next {T J : Type 0} (first : Store) (start : Option ℕ) (t : Track) (last : Store) (q : Rules T J) (z : SessionState T) (events : List (Event J)) (v c : ℕ) : Type 0 where
  pub run : IsRun q z events
  pub store : q.seen z.store ≡ last
  pub cursor : last_cursor start t ≡ Some c
  pub goes_on : IsThereOrResumes q z events v c

-- a track followed by that of walk v over the next run, with the cursor at c in between
abbrev pub track_then : {T J : Type 0} → Store → Track → Rules T J → ℕ → ℕ → List (Moment T J) → Track
track_then first t q v c k = t ++ track_on (suc (length t)) (last_names (first_names first) t) (Some c) q v k

-- a run and the next over the same store: walk w is at c at the end of the first, and v continues at c in the next
pub record Join {S T I J : Type 0} (r : Rules S I) (s : SessionState S) (events : List (Event I)) (w : ℕ) (q : Rules T J) (z : SessionState T) (next : List (Event J)) (v c : ℕ) : Type 0 where
  pub run : IsRun r s events
  pub next_run : IsRun q z next
  pub store : q.seen z.store ≡ last_store r s events
  pub cursor : slice_get (state_after r s events).cursors w ≡ Some c
  pub goes_on : IsThereOrResumes q z next v c

-- the track of walk w over a run, followed by that of v over the next
abbrev pub joined : {S T I J : Type 0} → Rules S I → SessionState S → List (Event I) → ℕ → Rules T J → SessionState T → List (Event J) → ℕ → ℕ → Track
joined r s events w q z next v c = track_then (r.seen s.store) (track_of r s events w) q v c (history q z next)
