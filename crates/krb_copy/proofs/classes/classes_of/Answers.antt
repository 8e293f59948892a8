use Rattle.krb_copy.proofs.ForAnswers.{List, ℕ, [], sym, subst, ◌++◌, ◌∷◌, map, name_text, PlacedEntry, as_found, AreTexts, entry_texts, key_of_fields, AreClasses, Held, map_push, one_further}
use Rattle.krb_copy.proofs.classes.classes_of.Goals as goal

pub entries-preserved : goal.entries-preserved
entries-preserved g c = λ more texts.
    let f = c.entries.invariant more texts in
    let x : PlacedEntry = (c.in-Some.place, c.in-Some.entry) in
    let rest = c.next.new.self in
    let others : List (List ℕ) = entry_texts rest ++ more in
    let left = subst (λ (xs : List PlacedEntry). AreTexts (entry_texts xs ++ more) c.entries.texts.bytes.now c.entries.texts.lens.now) c.in-Some.ensures.steps f.texts in
    let name = c.next-in-entries.ensures (name_text x.1.principal) (x.1.key ∷ others) left in
    let of_x = key_of_fields x.1 c.fields.result c.next-in-entries.result.now c.class_key-key.result c.fields.ensures.is name.0 c.class_key-key.ensures in
    let key = c.next-secret.ensures x.1.key others name.1 in
    record {
      before = f.before ++ x ∷ [];
      parts = one_further _ f.before _ _ x f.parts c.in-Some.ensures.steps;
      classes_are = subst (λ (held : List Held). AreClasses [] held c.add.new.classes) (sym (map_push as_found f.before x)) (c.in_ok-add.ensures (map as_found f.before) x.1 f.classes_are of_x key.0);
      texts = key.1;
    }
