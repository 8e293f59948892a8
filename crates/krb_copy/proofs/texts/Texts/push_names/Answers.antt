use Rattle.krb_copy.proofs.ForAnswers.{◌++◌, ◌∷◌, [], List, take, subst, arith, name_text, PlacedEntry, AreTexts, name_texts, take_all, Parts, one_asked}
use Rattle.krb_copy.proofs.texts.Texts.push_names.Goals as goal

pub asked-preserved : goal.asked-preserved
asked-preserved g c = λ ts named.
    let i = c.asked._place-index in
    let before = ts ++ name_texts (take i c.args.asked.now) in
    let all = subst (λ (p : Parts). AreTexts (before ++ name_text p ∷ []) c.push_name.new.self.bytes.items c.push_name.new.self.lens.items) c.principal.ensures (c.in_ok-push_name.ensures before (c.asked.invariant ts named)) in
    subst (λ names. AreTexts names c.push_name.new.self.bytes.items c.push_name.new.self.lens.items) (one_asked ts c.args.asked.now i c.asked-item.result (omega arith) c.asked-item.is) all

pub returns : goal.returns
returns g c = λ ts named.
    subst (λ (ys : List PlacedEntry). AreTexts (ts ++ name_texts ys) c.asked.self.bytes.items c.asked.self.lens.items) (take_all c.asked._place-index c.args.asked.now (omega arith)) (c.asked.invariant ts named)
