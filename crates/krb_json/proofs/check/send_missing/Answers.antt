use Rattle.krb_json.proofs.ForAnswers.{err_from_is_err_and, ◌∷◌, [], missing_value, adds_next, adds_stop}
use Rattle.krb_json.proofs.check.send_missing.Goals as goal

pub returns-in_err-send_name : goal.returns-in_err-send_name
returns-in_err-send_name g c =
    let p = err_from_is_err_and c.from_residual.result c.from_residual.ensures.1 in
    rw (p.1, p.2) (adds_stop (λ t. missing_value t.now ∷ []) c.args.names.now c.names.name-index _ c.names-test.true c.names.invariant (c.in_err-send_name.ensures))

pub names-preserved : goal.names-preserved
names-preserved g c = adds_next (λ t. missing_value t.now ∷ []) c.args.names.now c.names.name-index _ c.names-test.true c.names.invariant (c.in_ok-send_name.ensures)
