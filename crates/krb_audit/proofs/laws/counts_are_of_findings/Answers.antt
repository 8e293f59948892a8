use Rattle.krb_audit.proofs.FoundCounts.{counts_nostrong, counts_old, counts_weak}
use Rattle.krb_audit.proofs.laws.counts_are_of_findings.Goals as goal

pub returns-clause-weak : goal.returns-clause-weak
returns-clause-weak c = counts_weak

pub returns-clause-old : goal.returns-clause-old
returns-clause-old c = counts_old

pub returns-clause-weak_names : goal.returns-clause-weak_names
returns-clause-weak_names c = counts_nostrong
