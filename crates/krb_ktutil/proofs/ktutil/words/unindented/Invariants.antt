use Rattle.krb_ktutil.proofs.Cited.{◌≡◌, ◌≤◌, length, unindented}
use Rattle.krb_ktutil.proofs.ktutil.words.unindented.Given as goal

abbrev pub invariant-loop-rest : goal.invariant-loop-rest
invariant-loop-rest l = record {
  same : unindented l.rest ≡ unindented l.fn.text;
  within : length l.rest ≤ length l.fn.text;
}

abbrev pub decreases-loop-rest : goal.decreases-loop-rest
decreases-loop-rest l = length l.rest
