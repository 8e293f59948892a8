use Rattle.krb_editors.proofs.ForAnswers.{map, subst, ap, sym, ◌∙◌, ◌≡◌, ◌++◌, ◌∷◌, [], ℕ, List, arith, append_assoc, append-nil, live_places, end_of, IsNonDecreasing, places_rise, walks_begin_with_all, rises-non_decreasing, passes, passes_none, places_from}
use Rattle.krb_editors.proofs.added.live_places.Goals as goal

-- all places are left
pub loop-place-init : goal.loop-place-init
loop-place-init g c =
    let s = g.P.Placed.rules.seen (g.P.Placed.state_of c.args.store.now) in
    let begins = walks_begin_with_all s in
    record {
      is_place = rw c.first-from.ensures.first begins.place;
      all = rw (c.new-places.ensures.items, c.first-from.ensures.first) (ap (map (λ r. r.place)) begins.all);
    }

pub loop-place-smaller : goal.loop-place-smaller
loop-place-smaller g c =
    let s = g.P.Placed.rules.seen (g.P.Placed.state_of c.args.store.now) in
    let stop = passes s c.loop-place.from c.in-Live.place c.in-Live.next c.first-from.ensures.sound c.in-Live.ensures in
    omega (arith, stop.ahead, stop.within)

-- one place more
pub loop-place-preserved : goal.loop-place-preserved
loop-place-preserved g c =
    let s = g.P.Placed.rules.seen (g.P.Placed.state_of c.args.store.now) in
    let stop = passes s c.loop-place.from c.in-Live.place c.in-Live.next c.first-from.ensures.sound c.in-Live.ensures in
    record {
      is_place = stop.is_place;
      all = ap (λ (ps : List ℕ). ps ++ places_from s c.in-Live.next) c.in_ok-push.ensures.items
          ∙ append_assoc c.loop-place.places.items (c.in-Live.place ∷ []) (places_from s c.in-Live.next)
          ∙ ap (λ (ps : List ℕ). c.loop-place.places.items ++ ps) (sym stop.first) ∙ c.loop-place.invariant.all;
    }

-- none is left
pub returns : goal.returns
returns g c =
    let s = g.P.Placed.rules.seen (g.P.Placed.state_of c.args.store.now) in
    let left = passes_none s c.loop-place.from (rw c.stop_at.ensures at c.in_default.not-Live) in
    let is : c.loop-place.places.items ≡ live_places s = sym (ap (λ (ps : List ℕ). c.loop-place.places.items ++ ps) left ∙ append-nil c.loop-place.places.items) ∙ c.loop-place.invariant.all in
    record {
      is = is;
      rises = subst IsNonDecreasing (sym is) (rises-non_decreasing s.first (end_of s) (live_places s) (places_rise s c.first-from.ensures.sound));
    }
