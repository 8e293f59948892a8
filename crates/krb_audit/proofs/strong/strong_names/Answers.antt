use Rattle.krb_audit.proofs.ForAnswers.{are_strong}
use Rattle.krb_audit.proofs.strong.strong_names.Goals as goal

pub returns : goal.returns
returns g c = λ xs are newest. are_strong xs c.args.rows.now c.args.newest.now _ are newest c.in_ok-by_name.ensures
