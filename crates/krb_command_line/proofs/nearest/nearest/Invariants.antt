use Rattle.std.specs.Prelude.{◌≡◌, drop, fold}
use Rattle.krb_command_line.specs.Nearest.{nearer, nearest}
use Rattle.krb_command_line.proofs.nearest.nearest.Given as goal

-- the names to come leave the nearest of all
abbrev pub invariant-loop-name : goal.invariant-loop-name
invariant-loop-name l = nearest l.word l.names ≡ (fold (nearer l.word) (record { name = l.found; least = l.least }) (drop l.name-index l.names)).name
