use Rattle.krb_driver.proofs.Cited.{take, flat_map, Adds, failure_words}
use Rattle.krb_driver.proofs.reporting.ending_words.add_failures.Given as goal

abbrev pub invariant-failures : goal.invariant-failures
invariant-failures g l = Adds l.initial.err l.initial.gathered.items l.err l.gathered.items (flat_map (failure_words l.kind) (take l.failure-index l.failures))
