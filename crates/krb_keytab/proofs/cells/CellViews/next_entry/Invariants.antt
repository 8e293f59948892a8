use Rattle.std.proofs.Common.{◌≡◌, length}
use Rattle.krb_keytab.specs.Entries.{entries_in}
use Rattle.krb_keytab.proofs.cells.CellViews.next_entry.Given as goal

-- no entry was skipped
abbrev pub invariant-loop-at : goal.invariant-loop-at
invariant-loop-at l = record {
  same : entries_in l.self.format l.self.place l.self.contents.cells ≡ entries_in l.fn.self.format l.fn.self.place l.fn.self.contents.cells;
  format : l.self.format ≡ l.format;
}

abbrev pub decreases-loop-at : goal.decreases-loop-at
decreases-loop-at l = length l.self.contents.cells
