use Rattle.krb_json.proofs.ForAnswers.{match_flat}
use Rattle.krb_json.proofs.matches.send_ticket.Goals as goal

pub returns : goal.returns
returns g c = c.send.ensures _ _ c.in_ok-matched.ensures c.requires.empty (match_flat c.args.ticket.now)
