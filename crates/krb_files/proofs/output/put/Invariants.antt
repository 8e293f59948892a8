use Rattle.krb_files.proofs.Cited.{length, ◌-◌, ◌≤◌, take, IsFalse, Appends}
use Rattle.krb_files.proofs.output.put.Given as goal

abbrev pub invariant-loop-done : goal.invariant-loop-done
invariant-loop-done g l = record {
  within : l.done ≤ length l.bytes;
  sent : Appends l.initial.out.contents l.out.contents (take l.done l.bytes);
  well : IsFalse l.out.failed;
}

abbrev pub decreases-loop-done : goal.decreases-loop-done
decreases-loop-done g l = length l.bytes - l.done
