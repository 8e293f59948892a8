use Rattle.krb_audit.proofs.NewestLemmas.{newest_is, name_kept}
use Rattle.krb_audit.proofs.laws.each_name_keeps_an_entry.Goals as goal

pub returns-clause-newest : goal.returns-clause-newest
returns-clause-newest c = λ name xs e is. newest_is name xs e is

pub returns-clause-kept : goal.returns-clause-kept
returns-clause-kept c = λ xs x among. name_kept xs x among
