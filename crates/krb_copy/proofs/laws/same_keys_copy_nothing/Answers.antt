use Rattle.krb_copy.proofs.Differences.{no_difference_law}
use Rattle.krb_copy.proofs.laws.same_keys_copy_nothing.Goals as goal

pub returns : goal.returns
returns c = no_difference_law
