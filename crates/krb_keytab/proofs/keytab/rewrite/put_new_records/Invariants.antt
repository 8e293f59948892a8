use Rattle.krb_keytab.proofs.Cited.{◌≤◌, ◌^◌, length, flat_map, Big, Left, cell, rewrite_of}
use Rattle.krb_keytab.proofs.NewRecords.{new_records}
use Rattle.krb_keytab.proofs.keytab.rewrite.put_new_records.Given as goal

-- the records of the entries that are still to come are left
abbrev pub invariant-entries : goal.invariant-entries
invariant-entries g l = record {
  left : Left (flat_map (cell Big) (rewrite_of l.keytab.state).contents.cells) (new_records l.entry-iterator) l.fn.pen l.pen;
  small : length l.pen.out.now ≤ 2 ^ 30;
}
