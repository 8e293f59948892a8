use Rattle.krb_ktutil.proofs.Cited.{◌≡◌, ◌≤◌, ◌-◌, slice_range, Grows, HasNone, vec_len}
use Rattle.krb_ktutil.proofs.input_lines.read_to_newline.Given as goal

abbrev pub invariant-reads : goal.invariant-reads
invariant-reads g l = record {
  within : vec_len l.bytes ≤ 16777217;
  ahead : (l.next ≤ l.seen) × (l.seen ≤ vec_len l.bytes);
  none : HasNone (slice_range l.bytes.items l.next l.seen);
  grows : Grows l.initial.bytes.items l.bytes.items l.initial.reader.left l.reader.left;
  failed : l.reader.failed ≡ l.initial.reader.failed;
}

abbrev pub decreases-reads : goal.decreases-reads
decreases-reads g l = 16777217 - vec_len l.bytes
