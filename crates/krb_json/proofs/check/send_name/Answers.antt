use Rattle.krb_json.proofs.ForAnswers.{missing_flat}
use Rattle.krb_json.proofs.check.send_name.Goals as goal

pub returns : goal.returns
returns g c = c.send.ensures _ _ c.in_ok-missing.ensures c.requires.empty (missing_flat c.args.name.now)
