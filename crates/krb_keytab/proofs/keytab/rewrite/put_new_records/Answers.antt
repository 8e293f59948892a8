use Rattle.krb_keytab.proofs.Cited.{ap, arith, Big, left_all, left_next, left_room, left_none, cell, new_record}
use Rattle.krb_keytab.proofs.NewRecords.{new_records, new_records_all, new_records_next}
use Rattle.krb_keytab.proofs.keytab.rewrite.put_new_records.Goals as goal

pub entries-init : goal.entries-init
entries-init g c = search (arith, left_all, new_records_all)

pub put_new_record-requires-clause-room : goal.put_new_record-requires-clause-room
put_new_record-requires-clause-room g c =
    left_room (cell Big (new_record c.in-Some.entry)) (new_records c.next.new.self) c.entries.invariant.left (new_records_next c.entries.entry-iterator c.next.new.self (c.in-Some.field-0-0, c.in-Some.entry) c.in-Some.ensures.steps)

pub entries-preserved : goal.entries-preserved
entries-preserved g c =
    let puts = c.put_new_record.ensures in
    record {
      left = left_next c.entries.invariant.left (new_records_next c.entries.entry-iterator c.next.new.self (c.in-Some.field-0-0, c.in-Some.entry) c.in-Some.ensures.steps) puts;
      small = omega (arith, puts.length, c.entries.invariant.small);
    }

pub returns : goal.returns
returns g c = left_none c.entries.invariant.left (ap new_records c.in-None.ensures.steps.0)
