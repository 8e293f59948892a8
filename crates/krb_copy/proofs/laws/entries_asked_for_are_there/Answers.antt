use Rattle.krb_copy.proofs.LawRuns.{second_does_nothing}
use Rattle.krb_copy.proofs.laws.entries_asked_for_are_there.Goals as goal

pub returns-clause-second : goal.returns-clause-second
returns-clause-second c = second_does_nothing
