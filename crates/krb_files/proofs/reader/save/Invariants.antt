use Rattle.krb_files.proofs.Cited.{length, ◌-◌, ◌≤◌, take, Appends}
use Rattle.krb_files.proofs.reader.save.Given as goal

abbrev pub invariant-loop-count : goal.invariant-loop-count
invariant-loop-count g l = record {
  within : l.count ≤ length l.bytes;
  sent : Appends (g.W.Write.contents l.initial.writer) (g.W.Write.contents l.writer) (take l.count l.bytes);
}

abbrev pub decreases-loop-count : goal.decreases-loop-count
decreases-loop-count g l = length l.bytes - l.count
