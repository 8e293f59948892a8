use Rattle.krb_json.proofs.ForAnswers.{err_from_is_err_and, gathers_two_fails, gathers_then_memory, gathers_three}
use Rattle.krb_json.proofs.cache.send_arrays.Goals as goal

pub returns-in_err-send_shown-clause-gathers : goal.returns-in_err-send_shown-clause-gathers
returns-in_err-send_shown-clause-gathers g c =
    let p = err_from_is_err_and c.from_residual.result c.from_residual.ensures.1 in
    let tickets = rw c.requires.first at c.in_err-send_shown.ensures.gathers in
    rw (p.1, p.2) (gathers_two_fails _ _ _ _ _ _ _ _ tickets)

pub returns-in_err-next_array-clause-gathers : goal.returns-in_err-next_array-clause-gathers
returns-in_err-next_array-clause-gathers g c =
    let p = err_from_is_err_and c.from_residual-in_err-next_array.result c.from_residual-in_err-next_array.ensures.1 in
    let tickets = rw c.requires.first at c.in_ok-send_shown.ensures.gathers in
    rw p.1 (gathers_then_memory _ _ _ _ _ _ _ _ _ tickets p.2)

pub returns-clause-gathers : goal.returns-clause-gathers
returns-clause-gathers g c =
    let tickets = rw c.requires.first at c.in_ok-send_shown.ensures.gathers in
    let configs = rw c.in_ok-next_array.ensures.first at c.send_shown-2.ensures.gathers in
    gathers_three _ _ _ _ _ _ _ _ _ _ _ _ tickets c.in_ok-next_array.ensures.text configs
