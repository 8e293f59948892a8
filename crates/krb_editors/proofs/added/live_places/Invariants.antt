use Rattle.krb_editors.proofs.Cited.{◌≡◌, ◌++◌, ◌-◌, true, map, live_places, end_of, is_place, records_from}
use Rattle.krb_editors.proofs.added.live_places.Given as goal

-- the places so far, and those that are left
abbrev pub invariant-loop-place : goal.invariant-loop-place
invariant-loop-place g l =
    let store = g.P.Placed.rules.seen (g.P.Placed.state_of l.store) in
    record {
      is_place : is_place store l.from ≡ true;
      all : l.places.items ++ map (λ r. r.place) (records_from store l.from) ≡ live_places store;
    }

abbrev pub decreases-loop-place : goal.decreases-loop-place
decreases-loop-place g l = end_of (g.P.Placed.rules.seen (g.P.Placed.state_of l.store)) - l.from
