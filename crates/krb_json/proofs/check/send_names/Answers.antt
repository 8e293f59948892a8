use Rattle.krb_json.proofs.ForAnswers.{err_from_is_err_and, adds_next, adds_stop, name_finding}
use Rattle.krb_json.proofs.check.send_names.Goals as goal

pub returns-in_err-send_name_finding : goal.returns-in_err-send_name_finding
returns-in_err-send_name_finding g c =
    let p = err_from_is_err_and c.from_residual.result c.from_residual.ensures.1 in
    rw (p.1, p.2) (adds_stop (name_finding c.args.finding) c.args.entries.now c.entries.marked-index c.marked-item.result c.entries-test.true c.entries.invariant (rw (← c.marked-item.is) c.in_err-send_name_finding.ensures))

pub entries-preserved : goal.entries-preserved
entries-preserved g c = adds_next (name_finding c.args.finding) c.args.entries.now c.entries.marked-index c.marked-item.result c.entries-test.true c.entries.invariant (rw (← c.marked-item.is) c.in_ok-send_name_finding.ensures)
