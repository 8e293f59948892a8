-- A walk, event by event: its track.
use Rattle.std.specs.Prelude.{◌≡◌, ℕ, suc, Bool, true, false, ◌&&◌, nat_le, nat_lt, ◌⊎◌, IsSomeAnd, List, [], ◌∷◌, map, insert, remove, Option, Some, None, slice_get}
use Rattle.std.specs.List.{AllByRecursion}
use Rattle.std.specs.Option.{option_or}
use Rattle.krb_walk.specs.declared.event.Event.{Event}
use Rattle.krb_walk.specs.Store.{Store, IsSound, IsPlace, next_live, end_of, fault_of}
use Rattle.krb_walk.specs.Ranks.{live_places, rank, carry}
use Rattle.krb_walk.specs.Changes.{Changes}
use Rattle.krb_walk.specs.ReplyContent.{ReplyContent, Gave, Ended, Faulted, Placed, Gone, Rewritten, is_step_reply, is_rewritten}
use Rattle.krb_walk.specs.Rules.{Rules}
use Rattle.krb_walk.specs.Events.{SessionState}
use Rattle.krb_walk.specs.History.{Moment, history, steps_walk}

-- the name of a record: the place where it was added, and the number of the event that added it, or 0
pub record RecordName : Type 0 where
  pub place : ℕ
  pub birth : ℕ

-- the names of the records of a store at the start
abbrev pub first_names : Store → List RecordName
first_names s = map (λ p. record { place = p; birth = 0 }) (live_places s)

-- the names of the live records after event n: an addition inserts a name at the rank of its cell, a removal takes the name of its cell away
abbrev pub names_after : ℕ → ReplyContent → Store → Store → List RecordName → List RecordName
names_after n (Placed p) old new names = insert names (rank new p) (record { place = p; birth = n })
names_after n (Gone p) old new names = remove names (rank old p)
names_after n other old new names = names

-- an event as a walk sees it: its number, whether it is a step of the walk, the stores and cursors before and after, and its reply
pub record WalkEvent : Type 0 where
  pub number : ℕ
  pub walk : ℕ
  -- whether it is a step of the walk, which exists
  pub stepped : Bool
  -- the store, and the walk's cursor, before the event and after it
  pub before : Store
  pub after : Store
  pub from : Option ℕ
  pub to : Option ℕ
  -- the names of the live cells before it, in order
  pub names : List RecordName
  pub reply : ReplyContent

-- events as a walk sees them, in order
abbrev pub Track : Type 0
Track = List WalkEvent

-- the track of a walk over a history whose first event has number n; before the walk is started its cursor is c
abbrev pub track_on : {S I : Type 0} → ℕ → List RecordName → Option ℕ → Rules S I → ℕ → List (Moment S I) → Track
track_on n names c r w [] = []
track_on n names c r w (m ∷ ms) =
    record {
      number = n;
      walk = w;
      stepped = steps_walk m.before m.event w;
      before = r.seen m.before.store;
      after = r.seen m.after.store;
      from = option_or (slice_get m.before.cursors w) c;
      to = option_or (slice_get m.after.cursors w) c;
      names = names;
      reply = m.reply;
    }
    ∷ track_on (suc n) (names_after n m.reply (r.seen m.before.store) (r.seen m.after.store) names) c r w ms

-- the track of a walk over a history that begins in a state
abbrev pub track : {S I : Type 0} → Rules S I → SessionState S → ℕ → List (Moment S I) → Track
track r s w h = track_on 1 (first_names (r.seen s.store)) None r w h

-- the track of a walk over events from a state
abbrev pub track_of : {S I : Type 0} → Rules S I → SessionState S → List (Event I) → ℕ → Track
track_of r s events w = track r s w (history r s events)

-- a cursor goes from at or before a place to after the place
abbrev pub goes_past : ℕ → Option ℕ → Option ℕ → Bool
goes_past p (Some c) (Some d) = nat_le c p && nat_lt p d
goes_past p c d = false

-- a walk passes a place at an event
abbrev pub passes : ℕ → WalkEvent → Bool
passes p x = goes_past p x.from x.to

-- the names after the last event
abbrev pub last_names : List RecordName → Track → List RecordName
last_names names [] = names
last_names names (x ∷ xs) = last_names (names_after x.number x.reply x.before x.after x.names) xs

-- the cursor after the last event
abbrev pub last_cursor : Option ℕ → Track → Option ℕ
last_cursor c [] = c
last_cursor c (x ∷ xs) = last_cursor x.to xs

-- no event of a track rewrites the store, so places stay
abbrev pub PlacesStay : Track → Type 0
PlacesStay t = AllByRecursion (λ x. is_rewritten x.reply ≡ false) t

-- ---- what makes a track that of one walk

-- a step of walk w at c replies with the next live cell, or else the fault, or the end; `to` is the place after that
abbrev pub AnswersStep : Store → ℕ → ℕ → ReplyContent → ℕ → Type 0
AnswersStep s w c (Gave v p next bytes) to = (v ≡ w) × (next_live s c ≡ Some (record { place = p; next = next; bytes = bytes })) × (to ≡ next)
AnswersStep s w c (Ended v next) to = (v ≡ w) × (next_live s c ≡ None) × (s.fault ≡ None) × (next ≡ end_of s) × (to ≡ end_of s)
AnswersStep s w c (Faulted v fault) to = (v ≡ w) × (next_live s c ≡ None) × (fault_of s ≡ Some fault) × (to ≡ end_of s)
AnswersStep s w c other to = ⊥

-- the cursor after an event that is no step of its walk: a rewrite carries the cursor, any other event leaves it
abbrev pub carry_by : ReplyContent → Store → Store → ℕ → ℕ
carry_by (Rewritten p) old new c = carry old new c
carry_by other old new c = c

-- an event that is no step of the walk, nor replied to as one, leaves its cursor or carries it
pub record Stays (x : WalkEvent) : Type 0 where
  pub idle : x.stepped ≡ false
  pub other : is_step_reply x.walk x.reply ≡ false
  pub stays : (c : ℕ) → x.from ≡ Some c → x.to ≡ Some (carry_by x.reply x.before x.after c)

-- a step of the walk moves its cursor, and replies as `AnswersStep` has it
pub record MovesCursor (x : WalkEvent) : Type 0 where
  pub stepped : x.stepped ≡ true
  pub at : ℕ
  pub stood : x.from ≡ Some at
  pub answered : IsSomeAnd x.to (AnswersStep x.before x.walk at x.reply)

-- event n, as a walk sees it in a store with these names and with this cursor
pub record IsWalkEvent (n : ℕ) (s : Store) (known : List RecordName) (c : Option ℕ) (x : WalkEvent) : Type 0 where
  pub number : x.number ≡ n
  pub before : x.before ≡ s
  pub names : x.names ≡ known
  pub from : x.from ≡ c
  pub sound : IsSound x.before
  pub here : (d : ℕ) → x.from ≡ Some d → IsPlace x.before d
  pub there : (d : ℕ) → x.to ≡ Some d → IsPlace x.after d
  pub changes : Changes x.reply x.before x.after
  pub effect : Stays x ⊎ MovesCursor x

-- events that follow one another, from event n on, and end with a store
abbrev pub IsTrack : ℕ → Store → List RecordName → Option ℕ → Track → Store → Type 0
IsTrack n s names c [] last = last ≡ s
IsTrack n s names c (x ∷ xs) last = IsWalkEvent n s names c x × IsTrack (suc n) x.after (names_after x.number x.reply x.before x.after x.names) x.to xs last

-- the track of one walk from event 1 on, from a store and a cursor to a last store: over one run, or over joined runs
pub record IsWalk (s : Store) (c : Option ℕ) (t : Track) (last : Store) : Type 0 where
  pub sound : IsSound s
  pub here : (d : ℕ) → c ≡ Some d → IsPlace s d
  pub is : IsTrack 1 s (first_names s) c t last
