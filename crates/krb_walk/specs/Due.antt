-- What is due to a walk, and what it is given.
use Rattle.std.specs.Prelude.{ℕ, cond, ◌&&◌, nat_le, nat_lt, List, [], find, filter_map, flat_map, Option, Some, None}
use Rattle.krb_walk.specs.Store.{Store, Record, places, live_at}
use Rattle.krb_walk.specs.History.{Row, rows_of_reply}
use Rattle.krb_walk.specs.Track.{WalkEvent, Track, passes}

-- what the walk is given at an event
abbrev pub rows_at_event : WalkEvent → List Row
rows_at_event x = rows_of_reply x.walk x.number x.reply

-- what the walk is given
abbrev pub given_over : Track → List Row
given_over t = flat_map rows_at_event t

-- the turn of a place: the event at which a walk passes it
abbrev pub turn : ℕ → Track → Option WalkEvent
turn p t = find (passes p) t

-- the row of an event with a record, if there is one
abbrev pub row_of : ℕ → Option Record → Option Row
row_of n None = None
row_of n (Some r) = Some (record { event = n; stood = r })

-- the row of a turn: the live cell that was at the place just before the event
abbrev pub row_at_turn : ℕ → Option WalkEvent → Option Row
row_at_turn p None = None
row_at_turn p (Some x) = row_of x.number (live_at x.before p)

-- what is due to a walk over a store that stays: for each place of the last store, in order, the row of its turn
abbrev pub due_over : Track → Store → List Row
due_over t last = filter_map (λ p. row_at_turn p (turn p t)) (places last)

-- the rows of the live cells of a store from a place on, before another place
abbrev pub rows_between : ℕ → Store → Option ℕ → Option ℕ → List Row
rows_between n s (Some c) (Some d) = filter_map (λ p. cond (nat_le c p && nat_lt p d) (row_of n (live_at s p)) None) (places s)
rows_between n s c d = []

-- what is due at an event: the live cells that the cursor passes, if the event is a step of the walk
abbrev pub due_at_event : WalkEvent → List Row
due_at_event x = cond x.stepped (rows_between x.number x.before x.from x.to) []

-- what is due to a walk step by step, also where places change between steps
abbrev pub due_by_steps : Track → List Row
due_by_steps t = flat_map due_at_event t
