-- Room is taken first; then the result of the keytab is returned, and the cell is added to table and tree.
use Rattle.krb_keytab.proofs.Cited.{◌≡◌, ◌∙◌, ◌<◌, List, Ok, Err, length, ap, sym, subst, arith, OnTrue_at, end_of, append_result, with_last, KeytabState, store_of, Slot}
use Rattle.std.proofs.lemmas.Result.{err_from_is_err_and}
use Rattle.std.specs.Prelude.{vec_len, vec_capacity}
use Rattle.krb_keytab.proofs.Stores.{state_is}
use Rattle.krb_keytab.proofs.ChangeLemmas.{IsKept}
use Rattle.krb_keytab.proofs.GrownLemmas.{longer_there, appended_kept}
use Rattle.krb_keytab.proofs.PlaceLemmas.{slots_len}
use Rattle.krb_keytab.proofs.indexed.Indexed.append.Goals as goal

pub reserve_one-requires : goal.reserve_one-requires
reserve_one-requires g c = search (arith, slots_len, state_is)

pub returns-in_err-reserve_one-clause-appended : goal.returns-in_err-reserve_one-clause-appended
returns-in_err-reserve_one-clause-appended g c =
    let i = c.self.inside in
    let x = c.args.form.now.bytes in
    let kept = subst (λ (y : KeytabState). IsKept y i.slots.items (vec_len i.slots) (vec_capacity i.slots) i.tree) (state_is c.self.view_is) c.self.invariant in
    let fits = subst (λ (y : KeytabState). append_result y x ≡ Ok (end_of (store_of y), with_last y x)) (state_is c.self.view_is) (OnTrue_at c.if-not-has_room.false c.has_room.ensures.fits) in
    let some : 0 < length x = omega (arith, c.len-need.ensures.some, c.len-need.ensures.len) in
    let p = err_from_is_err_and c.from_residual.result c.from_residual.ensures.1 in
    rw (p.1 ∙ ap Err p.2) (
      fits,
      longer_there c.args.self.now.state x (vec_len i.slots) (vec_capacity i.slots) i.tree some kept.1 (λ lt room. let ok = c.in_err-reserve_one.ensures.memory lt room in absurd (cc ok)),
      state_is c.self.view_is,
    )

pub push_live-requires-clause-few : goal.push_live-requires-clause-few
push_live-requires-clause-few g c = search (arith, slots_len, state_is)

pub invariant_of-self-2 : goal.invariant_of-self-2
invariant_of-self-2 g c =
    let i = c.self.inside in
    let x = c.args.form.now.bytes in
    let s = c.push_live.new.slots in
    let u = c.push_live.new.tree in
    let new = c.append.new.self.state in
    let kept = subst (λ (y : KeytabState). IsKept y i.slots.items (vec_len i.slots) (vec_capacity i.slots) i.tree) (state_is c.self.view_is) c.self.invariant in
    let fits = subst (λ (y : KeytabState). append_result y x ≡ Ok (end_of (store_of y), with_last y x)) (state_is c.self.view_is) (OnTrue_at c.if-not-has_room.false c.has_room.ensures.fits) in
    let gives = subst (λ (y : KeytabState). append_result y x ≡ Ok (c.in_ok-place.place, new)) (state_is c.self.view_is) c.in_ok-place.ensures.appended in
    let counts : vec_len c.reserve_one.new.slots ≡ length i.slots.items = omega (arith, c.reserve_one.ensures.len, i.slots.ok) in
    let done = appended_kept c.args.self.now.state new x i.slots.items c.reserve_one.new.slots.items i.tree c.reserve_one.new.tree u c.in_ok-place.place c.len-need.result (vec_len i.slots) (vec_capacity i.slots) (vec_len s) (vec_capacity s) (vec_len c.reserve_one.new.slots)
    kept c.requires.whole fits gives c.len-need.ensures.len (omega (arith, OnTrue_at c.if-not-has_room.false c.has_room.ensures.small)) c.reserve_one.ensures.slots c.reserve_one.ensures.sizes c.reserve_one.ensures.height counts c.push_live.ensures.grown in
    subst (λ (y : List Slot). IsKept new y (vec_len s) (vec_capacity s) u) (sym (rw c.field.ensures at c.push_live.ensures.slots)) done
