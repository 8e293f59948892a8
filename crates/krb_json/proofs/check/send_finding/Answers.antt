use Rattle.krb_json.proofs.ForAnswers.{entry_finding_flat, sym, ◌∙◌}
use Rattle.krb_json.proofs.check.send_finding.Goals as goal

pub returns : goal.returns
returns g c =
    let sent = c.send.ensures _ _ c.in_ok-entry_finding.ensures c.requires.empty (entry_finding_flat c.args.finding _ _) in
    rw (sym c.has.ensures ∙ c.if-not-has.false, ← c.first_for-first.ensures) sent
