use Rattle.krb_json.proofs.ForAnswers.{file_finding_flat}
use Rattle.krb_json.proofs.check.send_if.Goals as goal

pub returns : goal.returns
returns g c = rw c.if-not-holds.false (c.send.ensures _ _ c.in_ok-file_finding.ensures c.requires.empty (file_finding_flat c.args.finding))
