use Rattle.krb_readers.proofs.Cited.{refl}
use Rattle.krb_readers.proofs.ktmatch.match_next.Goals as goal

pub returns : goal.returns
returns g c = record {
  ran = record { world = c.run_over-status.new.world; state = c.run_over-status.result.state; status = c.run_over-status.result.status };
  over = rw c.from_ref-names.ensures.value at c.run_over-status.ensures;
  named = rw c.as_bytes-name.ensures.value at c.name_entry.ensures;
  same = refl;
  state = refl;
  status_is = c.max.ensures;
}
