use Rattle.krb_audit.proofs.FoundCounts.{selects_same}
use Rattle.krb_audit.proofs.laws.selected_doubles_are_same.Goals as goal

pub returns : goal.returns
returns c = selects_same
