use Rattle.krb_ktutil.proofs.Cited.{◌≡◌, length, unindented, reverse, trimmed}
use Rattle.krb_ktutil.proofs.ktutil.words.trimmed.Given as goal

abbrev pub invariant-loop-rest : goal.invariant-loop-rest
invariant-loop-rest l = reverse (unindented (reverse l.rest)) ≡ trimmed l.fn.text

abbrev pub decreases-loop-rest : goal.decreases-loop-rest
decreases-loop-rest l = length l.rest
