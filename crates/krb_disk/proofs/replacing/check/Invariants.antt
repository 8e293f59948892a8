use Rattle.std.proofs.Common.{◌≡◌}
use Rattle.krb_disk.proofs.replacing.check.Given as goal

-- a try that ends in a wait leaves the new file as it was
abbrev pub invariant-loop : goal.invariant-loop
invariant-loop g l = l.new_file ≡ l.initial.new_file
