use Rattle.krb_wire.proofs.Cited.{◌-◌, length, take, All, IsPlain}
use Rattle.krb_wire.proofs.quote.is_plain_in_runs.Given as goal

abbrev pub invariant-loop-at : goal.invariant-loop-at
invariant-loop-at g l = All IsPlain (take l.at l.bytes)

abbrev pub decreases-loop-at : goal.decreases-loop-at
decreases-loop-at g l = length l.bytes - l.at
