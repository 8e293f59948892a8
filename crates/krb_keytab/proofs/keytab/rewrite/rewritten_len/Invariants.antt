use Rattle.krb_keytab.proofs.Cited.{◌≡◌, ◌≤◌, ◌<◌, ◌+◌, length, image_of, rewrite_of}
use Rattle.krb_keytab.proofs.NewRecords.{new_records}
use Rattle.krb_keytab.proofs.keytab.rewrite.rewritten_len.Given as goal

-- the records so far, and those of the entries that are still to come, are as long as all, and as many
abbrev pub invariant-entries : goal.invariant-entries
invariant-entries g l = record {
  so_far : l.len + length (new_records l.entry-iterator) ≡ length (image_of (rewrite_of l.keytab.state));
  count : l.count + length l.entry-iterator ≡ length (rewrite_of l.keytab.state).contents.cells;
  few : l.count < l.len;
  within : l.len ≤ l.limit;
}
