use Rattle.krb_wire.proofs.Cited.{length, quote}
use Rattle.krb_wire.proofs.TextLemmas.{Left}
use Rattle.krb_wire.proofs.quote.push_in_batches.Given as goal

abbrev pub invariant-loop-rest : goal.invariant-loop-rest
invariant-loop-rest g l = Left (quote l.bytes) (quote l.rest) l.fn.out l.out

abbrev pub decreases-loop-rest : goal.decreases-loop-rest
decreases-loop-rest g l = length l.rest
