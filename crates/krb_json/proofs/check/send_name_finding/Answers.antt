use Rattle.krb_json.proofs.ForAnswers.{name_finding_flat, sym, ◌∙◌}
use Rattle.krb_json.proofs.check.send_name_finding.Goals as goal

pub returns : goal.returns
returns g c =
    let sent = c.send.ensures _ _ c.in_ok-name_finding.ensures c.requires.empty (name_finding_flat c.args.finding _ _) in
    rw (sym c.has.ensures ∙ c.if-not-has.false, ← c.newest_for-kvno.ensures, ← c.principal.ensures) sent
