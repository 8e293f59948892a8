use Rattle.krb_audit.proofs.Cited.{◌≡◌, placed_entries, AreNumbered, entries_in}
use Rattle.krb_audit.proofs.rows.rows_of.Given as goal

-- the names of the entries so far are numbered
abbrev pub invariant-loop-place : goal.invariant-loop-place
invariant-loop-place g l = record {
  numbered : AreNumbered l.format (placed_entries l.keytab.state) (entries_in l._place-iterator.format l._place-iterator.place l._place-iterator.contents.cells) l.names;
  format : l._place-iterator.format ≡ l.format;
}
