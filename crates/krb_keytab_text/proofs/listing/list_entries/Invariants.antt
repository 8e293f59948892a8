use Rattle.krb_keytab_text.proofs.Cited.{◌++◌, IsFalse, entry_lines, Passed}
use Rattle.krb_keytab_text.proofs.Lines.{lines_of}
use Rattle.krb_keytab_text.proofs.listing.list_entries.Given as goal

abbrev pub invariant-entries : goal.invariant-entries
invariant-entries g l = record {
  well : IsFalse l.out.failed;
  passed : Passed l.fn.out.contents l.out.contents (l.fn.gathered.items ++ entry_lines l.columns l.keytab.state) (lines_of l.columns l.entry-iterator) l.gathered.items;
}
