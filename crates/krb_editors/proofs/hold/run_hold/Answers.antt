use Rattle.std.proofs.Common.{refl}
use Rattle.krb_editors.specs.HoldEnds.{end_of}
use Rattle.krb_editors.proofs.hold.run_hold.Goals as goal
use Rattle.krb_editors.proofs.hold.run_hold.Goals.{in-Ok, in-Err}

pub returns : goal.returns
returns g c = record {
  done = c.edit_held-done.new.world;
  end = end_of c.edit_held-done.result;
  edits = c.edit_held-done.ensures;
  left = c.release.ensures;
  same = refl;
  details = c.details_of_hold-details.result;
  reported = elim c.match-done.branch [
    | in-Ok w ↦ rw w.in-Ok.is (rw (c.as_bytes.ensures.value, w.ending-is) at c.report-status.ensures)
    | in-Err w ↦ rw w.in-Err.is (rw (c.as_bytes.ensures.value, w.ending-is) at c.report-status.ensures)
  ];
  left_behind = c.details_of_hold-details.ensures;
  last = c.tell_end.ensures;
}
