use Rattle.krb_audit.proofs.KeptLaws.{more_are_kept}
use Rattle.krb_audit.proofs.Cited.{refl}
use Rattle.krb_audit.proofs.laws.keeping_more_removes_less.Goals as goal

pub returns-clause-one : goal.returns-clause-one
returns-clause-one c = λ now xs e. refl

pub returns-clause-more : goal.returns-clause-more
returns-clause-more c = more_are_kept
