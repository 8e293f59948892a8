use Rattle.krb_wire.proofs.Cited.{ap, sym, ◌∙◌, err_from_is_err_and}
use Rattle.krb_wire.proofs.TextLemmas.{joined_from, joined_is, left_all, left_next, left_fails}
use Rattle.krb_wire.proofs.text.push_components.Goals as goal

pub loop-component-init : goal.loop-component-init
loop-component-init g c =
    let all = c.into_iter-component-iterator.ensures.into_iter_gives ∙ c.components-component-items.ensures in
    left_all _ _ c.args.out.now (joined_is _ ∙ sym (ap (joined_from _) all))

pub loop-component-preserved : goal.loop-component-preserved
loop-component-preserved g c =
    left_next _ _ _ _ _ _ _ c.loop-component.invariant (ap (joined_from c.loop-component.first) c.in-Some.ensures.steps) c.in_ok-push_component.ensures

pub returns-in_err-push_component : goal.returns-in_err-push_component
returns-in_err-push_component g c =
    let p = err_from_is_err_and c.from_residual.result c.from_residual.ensures.1 in
    rw p.1 (left_fails _ _ _ _ _ _ _ _ _ c.loop-component.invariant (ap (joined_from c.loop-component.first) c.in-Some.ensures.steps) c.in_err-push_component.ensures)
