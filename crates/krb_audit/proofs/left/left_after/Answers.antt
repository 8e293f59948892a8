use Rattle.krb_audit.proofs.Cited.{◌≡◌, ℕ, ◌+◌, arith, subst, sym, AreRows}
use Rattle.krb_audit.specs.Newest.{left_after}
use Rattle.krb_audit.proofs.LeftLemmas.{one_passed}
use Rattle.krb_audit.proofs.left.left_after.Goals as goal

pub kvnos-init : goal.kvnos-init
kvnos-init g c = λ xs are. subst (AreRows xs xs) (sym (c.in_ok-left.ensures.items_if_clones_equal (λ x y is. is))) are

pub kvnos-preserved : goal.kvnos-preserved
kvnos-preserved g c = λ xs are.
    subst (AreRows xs (left_after (c.kvnos._kvno + 1) xs)) (sym c.remove_newest.ensures) (one_passed c.kvnos._kvno xs c.kvnos.left.items c.deref.result.now c.in_ok-newest.newest.items c.deref-in-kvnos.result.now
    (c.kvnos.invariant xs are) c.deref.ensures.value c.in_ok-newest.ensures c.deref-in-kvnos.ensures.value)

pub returns : goal.returns
returns g c = λ xs are.
    let at_end : c.kvnos._kvno ≡ c.args.kvnos = omega arith in
    subst (λ (n : ℕ). AreRows xs (left_after n xs) c.kvnos.left.items) at_end (c.kvnos.invariant xs are)
