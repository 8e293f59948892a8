use Rattle.krb_copy.proofs.ForAnswers.{placed_entries, AreAppended}
use Rattle.krb_copy.proofs.texts.Texts.of.Given as goal

-- the texts of the entries so far were appended, and the others are still to come
abbrev pub invariant-entries : goal.invariant-entries
invariant-entries g l = AreAppended (placed_entries l.keytab.state) l._place-iterator l.texts.bytes.items l.texts.lens.items
