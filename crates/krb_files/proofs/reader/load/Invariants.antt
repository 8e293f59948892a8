use Rattle.krb_files.proofs.Cited.{◌≡◌, ◌≤◌, ◌-◌, min, vec_capacity, vec_len, Consumes}
use Rattle.krb_files.proofs.reader.load.Given as goal

abbrev pub invariant-loop-bytes : goal.invariant-loop-bytes
invariant-loop-bytes g l = record {
  within : vec_len l.bytes ≤ l.most;
  room : min l.expected l.limit ≤ vec_capacity l.bytes;
  taken : Consumes l.initial.reader.left l.reader.left l.bytes.items;
  failed : l.reader.failed ≡ l.initial.reader.failed;
}

abbrev pub decreases-loop-bytes : goal.decreases-loop-bytes
decreases-loop-bytes g l = l.most - vec_len l.bytes
