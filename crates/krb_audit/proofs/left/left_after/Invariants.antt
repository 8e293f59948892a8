use Rattle.krb_audit.proofs.Cited.{List, PlacedEntry, AreRows}
use Rattle.krb_audit.specs.Newest.{left_after}
use Rattle.krb_audit.proofs.left.left_after.Given as goal

-- as many kvnos are passed over as rounds were made
abbrev pub invariant-kvnos : goal.invariant-kvnos
invariant-kvnos g l = (xs : List PlacedEntry) → AreRows xs xs l.rows → AreRows xs (left_after l._kvno xs) l.left.items
