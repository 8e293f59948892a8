use Rattle.krb_json.proofs.ForAnswers.{◌<◌, ◌≤◌, arith, length, err_from_is_err_and, entry_finding, take_all, ABOUT_ENTRIES, adds_next, adds_stop}
use Rattle.krb_json.proofs.check.send_marked.Goals as goal

pub returns-in_err-send_finding : goal.returns-in_err-send_finding
returns-in_err-send_finding g c =
    let p = err_from_is_err_and c.from_residual.result c.from_residual.ensures.1 in
    let below : c.findings.finding-index < length ABOUT_ENTRIES = omega arith in
    rw (p.1, p.2) (adds_stop (entry_finding c.args.marked.now) ABOUT_ENTRIES c.findings.finding-index _ below c.findings.invariant c.in_err-send_finding.ensures)

pub findings-preserved : goal.findings-preserved
findings-preserved g c =
    let below : c.findings.finding-index < length ABOUT_ENTRIES = omega arith in
    adds_next (entry_finding c.args.marked.now) ABOUT_ENTRIES c.findings.finding-index _ below c.findings.invariant c.in_ok-send_finding.ensures

pub returns : goal.returns
returns g c =
    let past : length ABOUT_ENTRIES ≤ c.findings.finding-index = omega arith in
    rw (take_all _ ABOUT_ENTRIES past) at c.findings.invariant
