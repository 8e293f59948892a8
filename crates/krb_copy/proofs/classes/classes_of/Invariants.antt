use Rattle.krb_copy.proofs.ForAnswers.{List, ℕ, ◌++◌, placed_entries, AreTexts, entry_texts, AreFound}
use Rattle.krb_copy.proofs.classes.classes_of.Given as goal

-- the classes are those of the entries so far, and the texts those of the others
abbrev pub invariant-entries : goal.invariant-entries
invariant-entries g l =
    (more : List (List ℕ)) → AreTexts (entry_texts (placed_entries l.keytab.state) ++ more) l.fn.texts.bytes.now l.fn.texts.lens.now
    → AreFound (placed_entries l.keytab.state) l.place-iterator more l.classes l.texts.bytes.now l.texts.lens.now
