-- How often each record comes along a track, on which the store may be rewritten.
use Rattle.std.specs.Prelude.{◌≡◌, ◌↔◌, ℕ, ◌<◌, ◌≤◌, Bool, false, true, cond, ◌&&◌, ◌==◌, IsSome, List, [], ◌∷◌, ◌++◌, length, find, filter, flat_map, Option, Some, None}
use Rattle.std.specs.List.{AllByRecursion}
use Rattle.krb_walk.specs.Ranks.{live_places}
use Rattle.krb_walk.specs.ReplyContent.{Gone, Placed, completes}
use Rattle.krb_walk.specs.History.{Row}
use Rattle.krb_walk.specs.Track.{RecordName, WalkEvent, Track, goes_past}
use Rattle.krb_walk.specs.Due.{rows_at_event}

-- ---- rows, and where a track begins

-- the rows at a place
abbrev pub rows_at : ℕ → List Row → List Row
rows_at p rows = filter (λ row. row.stood.place == p) rows

-- rows are exactly one row
pub record OneRow (rows : List Row) : Type 0 where
  pub row : Row
  pub only : rows ≡ row ∷ []

-- the cursor at the first event
abbrev pub begins : Track → Option ℕ
begins [] = None
begins (x ∷ xs) = x.from

-- ---- a record is at the live cell of its rank

-- two names of records are the same
abbrev pub is_name : RecordName → RecordName → Bool
is_name r x = (r.place == x.place) && (r.birth == x.birth)

-- the place of a record, among names and the places of the live cells in the same order
abbrev pub place_among : RecordName → List RecordName → List ℕ → Option ℕ
place_among r (x ∷ names) (p ∷ ps) = cond (is_name r x) (Some p) (place_among r names ps)
place_among r names ps = None

-- the place of a record before an event, if the record is alive: that of the live cell of its rank
abbrev pub place_of : RecordName → WalkEvent → Option ℕ
place_of r x = place_among r x.names (live_places x.before)

-- a record is alive at a place before an event
pub record IsNamed (x : WalkEvent) (p : ℕ) : Type 0 where
  pub name : RecordName
  pub is_there : place_of name x ≡ Some p

-- the rows at a place, or none without a place
abbrev pub rows_at_some : Option ℕ → List Row → List Row
rows_at_some None rows = []
rows_at_some (Some p) rows = rows_at p rows

-- the rows that give a record at an event
abbrev pub rows_here : RecordName → WalkEvent → List Row
rows_here r x = rows_at_some (place_of r x) (rows_at_event x)

-- the rows of a record along a track
abbrev pub rows_of : RecordName → Track → List Row
rows_of r t = flat_map (rows_here r) t

-- a cursor goes past a place, if there is one
abbrev pub goes_past_some : Option ℕ → Option ℕ → Option ℕ → Bool
goes_past_some None c d = false
goes_past_some (Some p) c d = goes_past p c d

-- a step of the walk passes a record
abbrev pub passes_record : RecordName → WalkEvent → Bool
passes_record r x = x.stepped && goes_past_some (place_of r x) x.from x.to

-- the turn of a record: the step of the walk that passes it
abbrev pub turn_of : RecordName → Track → Option WalkEvent
turn_of r t = find (passes_record r) t

-- a record has a turn, and is alive at it
pub record HasTurn (r : RecordName) (t : Track) : Type 0 where
  pub at : WalkEvent
  pub is : turn_of r t ≡ Some at
  pub alive : IsSome (place_of r at)

-- the place of a record at the first event
abbrev pub place_at_first : RecordName → Track → Option ℕ
place_at_first r [] = None
place_at_first r (x ∷ xs) = place_of r x

-- from an event with the cursor at or before the record, until the walk is completed, the record is alive
pub record IsAliveUntilDone (r : RecordName) (t : Track) : Type 0 where
  pub earlier : Track
  pub steps : Track
  pub done : WalkEvent
  pub later : Track
  pub track_is : t ≡ earlier ++ (steps ++ done ∷ later)
  pub start : ℕ
  pub place : ℕ
  pub began : begins (steps ++ done ∷ later) ≡ Some start
  pub stood : place_at_first r (steps ++ done ∷ later) ≡ Some place
  pub ahead : start ≤ place
  pub alive : AllByRecursion (λ x. IsSome (place_of r x)) steps
  pub alive_last : IsSome (place_of r done)
  pub completed : completes done.walk done.reply ≡ true

-- a record was removed before a step passed it
pub record IsCutBefore (r : RecordName) (t : Track) : Type 0 where
  pub earlier : Track
  pub cut : WalkEvent
  pub later : Track
  pub place : ℕ
  pub track_is : t ≡ earlier ++ cut ∷ later
  pub stood : place_of r cut ≡ Some place
  pub gone : cut.reply ≡ Gone place
  pub no_turn : turn_of r (earlier ++ cut ∷ []) ≡ None

-- a record is added while the walk's cursor is at c
pub record IsAddedAt (r : RecordName) (c : ℕ) (t : Track) : Type 0 where
  pub earlier : Track
  pub put : WalkEvent
  pub later : Track
  pub track_is : t ≡ earlier ++ put ∷ later
  pub placed : put.reply ≡ Placed r.place
  pub born : r.birth ≡ put.number
  pub cursor : put.from ≡ Some c

-- a step passes the second record after the first was given, and both are alive just before the step
pub record ComeInTurn (first second : RecordName) (t : Track) : Type 0 where
  pub earlier : Track
  pub at : WalkEvent
  pub later : Track
  pub track_is : t ≡ earlier ++ at ∷ later
  pub given : OneRow (rows_of first earlier)
  pub turn : passes_record second at ≡ true
  pub first_place : ℕ
  pub second_place : ℕ
  pub first_is_at : place_of first at ≡ Some first_place
  pub second_is_at : place_of second at ≡ Some second_place

-- each record is given to a walk as it is due, over rewrites too
pub record EachComesAsDue (t : Track) : Type 0 where
  -- "each once"
  pub at_most_once : (r : RecordName) → length (rows_of r t) ≤ 1
  -- "when its cursor passes their place": once, if ever
  pub turn_is_unique : (r : RecordName) → length (filter (passes_record r) t) ≤ 1
  -- "in file order": of two that come in turn, the first is before the second
  pub in_file_order : (first second : RecordName) (a : ComeInTurn first second t) → a.first_place < a.second_place
  -- "exactly the records alive when its cursor passes their place"
  pub once_if_it_has_a_turn : (r : RecordName) → OneRow (rows_of r t) ↔ HasTurn r t
  -- "one alive throughout a completed walk comes once"
  pub throughout_once : (r : RecordName) → IsAliveUntilDone r t → OneRow (rows_of r t)
  -- "one removed before its turn never"
  pub cut_before_never : (r : RecordName) → IsCutBefore r t → rows_of r t ≡ []
  -- "one added exactly when its place lies ahead and it lives to its turn"
  pub added_if_ahead : (r : RecordName) (c : ℕ) → IsAddedAt r c t → OneRow (rows_of r t) ↔ ((c ≤ r.place) × HasTurn r t)
