use Rattle.krb_editors.proofs.ForAnswers.{ap, ◌∙◌, ◌≡◌, ◌++◌, ◌∷◌, [], map, append-nil, nth_or, HaveSame, carry_by, same_inserted, same_refl, same_trans, same_turned}
use Rattle.std.proofs.lemmas.Map.Iter.{rest_all, rest_more}
use Rattle.std.specs.Map.Iter.{deref}
use Rattle.krb_editors.proofs.added.carried.Goals as goal

-- all are left
pub loop-place-init : goal.loop-place-init
loop-place-init g c =
    rw (c.new-places.ensures.empty, c.into_iter-place-iterator.ensures.into_iter_gives.0) (same_refl _)

-- one was carried
pub loop-place-preserved : goal.loop-place-preserved
loop-place-preserved g c =
    let carry = carry_by c.args.before.now c.args.after.now c.args.end in
    let left : c.loop-place.place-iterator ≡ c.in-Some.place.now ∷ c.next.new.self = rest_more deref _ _ _ _ c.in-Some.is c.next.ensures.steps in
    let to : c.of_rank.result ≡ carry c.in-Some.place.now = c.of_rank.ensures ∙ ap (nth_or c.args.end c.args.after.now) c.rank.ensures in
    let added = same_inserted c.of_rank.result c.loop-place.places.keys c.insert.new.self.keys c.in_ok-insert.ensures.updates.0 in
    let step : HaveSame (c.insert.new.self.keys ++ map carry c.next.new.self) (c.loop-place.places.keys ++ map carry c.loop-place.place-iterator)
    = rw left (same_turned c.insert.new.self.keys c.loop-place.places.keys (map carry c.next.new.self) (carry c.in-Some.place.now) (rw to at added)) in
    same_trans (c.insert.new.self.keys ++ map carry c.next.new.self) (c.loop-place.places.keys ++ map carry c.loop-place.place-iterator) (map carry c.args.added.now.keys) step c.loop-place.invariant

-- none is left
pub returns : goal.returns
returns g c =
    let left : c.loop-place.place-iterator ≡ [] = rest_all deref _ _ _ c.in-None.is c.next.ensures.steps in
    rw (left, append-nil) at c.loop-place.invariant
