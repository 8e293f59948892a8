use Rattle.krb_keytab.proofs.Cited.{◌≡◌, hole_from}
use Rattle.krb_keytab.proofs.cells.first_hole.Given as goal

-- no hole that is large enough was skipped
abbrev pub invariant-loop-place : goal.invariant-loop-place
invariant-loop-place l = hole_from l.place-iterator.place l.need l.place-iterator.contents.cells ≡ hole_from l.fn.cells.place l.need l.fn.cells.contents.cells
