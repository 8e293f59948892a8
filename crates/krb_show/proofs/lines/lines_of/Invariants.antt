use Rattle.krb_show.proofs.Cited.{◌≡◌, entries_in, AreSoFar}
use Rattle.krb_show.proofs.lines.lines_of.Given as goal

-- the entries so far are in their lines
abbrev pub invariant-loop-place : goal.invariant-loop-place
invariant-loop-place g l = record {
  so_far : AreSoFar l.keytab.state (entries_in l._place-iterator.format l._place-iterator.place l._place-iterator.contents.cells) l.so_far;
  format : l._place-iterator.format ≡ l.format;
}
