use Rattle.std.proofs.Common.{◌≡◌}
use Rattle.krb_disk.proofs.in_place.check.Given as goal

-- a try that ends in a wait leaves the file as it was
abbrev pub invariant-loop : goal.invariant-loop
invariant-loop g l = l.file ≡ l.initial.file
