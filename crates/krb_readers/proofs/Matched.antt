-- Caches were matched one after the other.
use Rattle.krb_readers.proofs.Cited.{◌≡◌, ◌⊎◌, ℕ, ◌+◌, ◌<◌, List, drop, get_or, length, drop_more, IsTrue, IsFalse, Ghosts, FileName, CommandPlan, KeytabState, Round, MatchState, MatchesEach, MatchesNext}

module _ {F R W E : Type 0} (trait : Ghosts F) (k : KeytabState) (plan : MatchState → FileName → CommandPlan) (all : List FileName) where
  -- what becomes of the rest of the caches becomes of all
  abbrev pub Leads : List FileName → Round MatchState F R W E → Round MatchState F R W E → Type 0
  Leads rest first now = (end : Round MatchState F R W E) → MatchesEach trait k plan rest now end → MatchesEach trait k plan all first end

  -- a cache was matched, and it was the last or others may come
  pub one_more : (i : ℕ) (none : FileName) (first old new : Round MatchState F R W E) → i < length all → Leads (drop i all) first old → MatchesNext trait k plan (get_or all i none) old new
      → (end : Round MatchState F R W E) → (IsTrue new.state.is_last × (end ≡ new)) ⊎ (IsFalse new.state.is_last × MatchesEach trait k plan (drop (i + 1) all) new end) → MatchesEach trait k plan all first end
  one_more i none first old new below leads next end rest = leads end (rw (drop_more all i none below) (new, next, rest))
