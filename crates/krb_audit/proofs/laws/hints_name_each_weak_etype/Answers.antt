use Rattle.krb_audit.proofs.WeakNumbers.{found_at}
use Rattle.krb_audit.proofs.laws.hints_name_each_weak_etype.Goals as goal

pub returns : goal.returns
returns c = λ xs etype. found_at xs etype
