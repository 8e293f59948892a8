use Rattle.krb_copy.proofs.Cited.{List, ℕ, ◌++◌, take, AreTexts, name_texts}
use Rattle.krb_copy.proofs.texts.Texts.push_names.Given as goal

-- the names of the entries so far were appended
abbrev pub invariant-asked : goal.invariant-asked
invariant-asked g l = (ts : List (List ℕ)) → AreTexts ts l.fn.self.bytes.items l.fn.self.lens.items → AreTexts (ts ++ name_texts (take l._place-index l.asked)) l.self.bytes.items l.self.lens.items
