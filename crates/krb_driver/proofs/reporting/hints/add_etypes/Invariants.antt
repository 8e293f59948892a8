use Rattle.krb_driver.proofs.Cited.{flat_map, range_with_len, etype_option, Adds}
use Rattle.krb_driver.proofs.reporting.hints.add_etypes.Given as goal

abbrev pub invariant-etypes : goal.invariant-etypes
invariant-etypes g l = Adds l.initial.err l.initial.gathered.items l.err l.gathered.items (flat_map (etype_option l.found) (range_with_len 0 l.etype))
