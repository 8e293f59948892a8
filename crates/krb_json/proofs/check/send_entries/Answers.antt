use Rattle.krb_json.proofs.ForAnswers.{err_from_is_err_and, entry_findings, adds_next, adds_stop}
use Rattle.krb_json.proofs.check.send_entries.Goals as goal

pub returns-in_err-send_marked : goal.returns-in_err-send_marked
returns-in_err-send_marked g c =
    let p = err_from_is_err_and c.from_residual.result c.from_residual.ensures.1 in
    rw (p.1, p.2) (adds_stop entry_findings c.args.entries.now c.entries.marked-index c.marked-item.result c.entries-test.true c.entries.invariant (rw (← c.marked-item.is) c.in_err-send_marked.ensures))

pub entries-preserved : goal.entries-preserved
entries-preserved g c = adds_next entry_findings c.args.entries.now c.entries.marked-index c.marked-item.result c.entries-test.true c.entries.invariant (rw (← c.marked-item.is) c.in_ok-send_marked.ensures)
