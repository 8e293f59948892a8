-- The properties of each walk.
use Rattle.std.specs.Prelude.{◌≡◌, ℕ, ◌≤◌, true, false, length, filter, map, Some, ◌+◌, ◌∷◌, ◌++◌, ◌↔◌, IsSomeAnd, Option}
use Rattle.std.specs.List.{AllByRecursion}
use Rattle.krb_walk.specs.Store.{Store, IsPlace}
use Rattle.krb_walk.specs.Ranks.{live_places}
use Rattle.krb_walk.specs.ReplyContent.{is_step_reply, completes, is_gave, is_placed, is_rewritten}
use Rattle.krb_walk.specs.Track.{RecordName, Track, PlacesStay, passes, WalkEvent, names_after, carry_by, AnswersStep}
use Rattle.krb_walk.specs.Due.{rows_at_event, given_over, due_over, due_by_steps}
use Rattle.krb_walk.specs.Records.{IsNamed, EachComesAsDue, place_among, place_of}
use Rattle.krb_walk.specs.Damage.{GivesThenFaults}
use Rattle.krb_walk.specs.Stops.{records_from}

-- ---- how a walk's cursor moves

-- the cursor of a walk may move so at an event: forward unless at a rewrite, as a step of its walk replies, and else only as a rewrite carries it
pub record CursorMayGo (x : WalkEvent) (c d : ℕ) : Type 0 where
  pub forward : is_rewritten x.reply ≡ false → c ≤ d
  pub moves : x.stepped ≡ true → AnswersStep x.before x.walk c x.reply d
  pub stays : x.stepped ≡ false → d ≡ carry_by x.reply x.before x.after c

-- the cursor of a walk at an event is a place, and moves as it may
pub record CursorIsSound (x : WalkEvent) (c : ℕ) : Type 0 where
  pub place : IsPlace x.before c
  pub to : IsSomeAnd x.to (CursorMayGo x c)

-- the place of a record after an event, if the record is alive then
abbrev pub next_place_of : RecordName → WalkEvent → Option ℕ
next_place_of r x = place_among r (names_after x.number x.reply x.before x.after x.names) (live_places x.after)

-- at an event that is no step of the walk, a record that lives on stays ahead of the cursor, or behind it
abbrev pub KeepsSide : RecordName → WalkEvent → Type 0
KeepsSide r x = (c d p q : ℕ) → x.stepped ≡ false → x.from ≡ Some c → x.to ≡ Some d → place_of r x ≡ Some p → next_place_of r x ≡ Some q → (c ≤ p) ↔ (d ≤ q)

-- ---- the properties of each walk

-- ---- how many steps of a walk give a record

-- how many additions are accepted along a track
abbrev pub additions : Track → ℕ
additions t = length (filter (λ x. is_placed x.reply) t)

-- from any event, with the cursor at c, to any later: no more rows than live cells at or after c plus additions since
abbrev pub FewStepsGive : Track → Type 0
FewStepsGive t = (earlier : Track) (x : WalkEvent) (steps later : Track) (c : ℕ) → t ≡ earlier ++ (x ∷ steps ++ later) → x.from ≡ Some c
    → length (given_over (x ∷ steps)) ≤ length (records_from x.before c) + additions (x ∷ steps)

-- ---- the properties of each walk

-- a walk over a track that ends with a store is given what is due to it, each record as it is due, and its cursor is sound. The quoted words above a field are those of the headline that it proves
pub record IsFair (t : Track) (last : Store) : Type 0 where
  -- "each walk gives exactly the records alive when its cursor passes their place": at each step, those it passes
  pub given_is_due : given_over t ≡ due_by_steps t
  -- the same if no event rewrites the store: place by place over the last store
  pub given_is_due_at_places : PlacesStay t → given_over t ≡ due_over t last
  -- "passes their place": if no event rewrites the store, each place at most once
  pub turn_of_a_place_is_unique : PlacesStay t → (p : ℕ) → length (filter (passes p) t) ≤ 1
  -- "the records alive": there is one name for each live cell
  pub names_are_as_many : AllByRecursion (λ x. length x.names ≡ length (live_places x.before)) t
  -- "their place": if no event rewrites the store, each name has the place of its cell
  pub names_are_at_places : PlacesStay t → AllByRecursion (λ x. map (λ r. r.place) x.names ≡ live_places x.before) t
  -- "exactly the records alive": each row is of a record that is alive just before, at the place of the row
  pub rows_are_of_records : AllByRecursion (λ x. AllByRecursion (λ row. IsNamed x row.stood.place) (rows_at_event x)) t
  -- "in file order, each once", and what comes once, what never, and what exactly if it lies ahead
  pub each : EachComesAsDue t
  -- "its place lies ahead": a record stays ahead of the cursor, or not ahead of it, except at the walk's own steps
  pub sides : (r : RecordName) → AllByRecursion (KeepsSide r) t
  -- "every list of steps": each step of the walk gets a reply about a step of it, and no other event does
  pub steps_get_replies : AllByRecursion (λ x. is_step_reply x.walk x.reply ≡ x.stepped) t
  -- "a completed walk": few steps give a record
  pub few_steps : FewStepsGive t
  -- "a completed walk": the reply to each step that gives no record is the end or the fault
  pub other_steps_end : AllByRecursion (λ x. x.stepped ≡ true → is_gave x.reply ≡ false → completes x.walk x.reply ≡ true) t
  -- "a damaged image gives the records before its fault, then the fault"
  pub damaged_gives_then_faults : GivesThenFaults t
  -- "its cursor": it is a place, moves on only at a step of its walk, and is carried by a rewrite
  pub cursor : AllByRecursion (λ x. (c : ℕ) → x.from ≡ Some c → CursorIsSound x c) t
