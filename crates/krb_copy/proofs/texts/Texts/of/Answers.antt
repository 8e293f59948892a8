use Rattle.krb_copy.proofs.ForAnswers.{◌++◌, ◌∷◌, [], List, ℕ, sym, subst, PlacedEntry, AreTexts, entry_texts, one_further, texts_more}
use Rattle.krb_copy.proofs.texts.Texts.of.Goals as goal

pub entries-preserved : goal.entries-preserved
entries-preserved g c =
    let a = c.entries.invariant in
    let x : PlacedEntry = (c.in-Some._place, c.in-Some.entry) in
    let new = c.push_entry.new.self in
    record {
      before = a.before ++ x ∷ [];
      parts = one_further _ a.before _ _ x a.parts c.in-Some.ensures.steps;
      texts = subst (λ (ts : List (List ℕ)). AreTexts ts new.bytes.items new.lens.items) (sym (texts_more a.before x)) (c.in_ok-push_entry.ensures (entry_texts a.before) a.texts);
    }
