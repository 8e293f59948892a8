use Rattle.krb_audit.proofs.ForAnswers.{◌∙◌, ap, sym, subst, List, ℕ, map, take, vec_items, ◌++◌, ◌∷◌, [], is_among, AreTaken, next_among, next_text, seen_in, seen_or, taken_next}
use Rattle.krb_audit.proofs.missing.Missing.texts.Goals as goal

pub texts-preserved : goal.texts-preserved
texts-preserved g c = λ before missing.
    let taken = c.texts.invariant before missing in
    let vs = c.args.wanted.now in
    let i = c.texts.text-index in
    let v = c.text-item.result in
    let done = map vec_items (take i vs) in
    let among = ap (is_among (map vec_items vs)) c.as_slice.ensures.value ∙ next_among vs i v c.texts-test.true c.text-item.is in
    let took = c.in_ok-take.ensures (map vec_items vs) (seen_or (seen_in before) done) taken.marks among in
    let next = taken_next (seen_in before) (map vec_items vs) done _ _ c.texts.missing.items _ c.as_slice.result taken took.0 took.1 in
    subst (λ (texts : List (List ℕ)). AreTaken (seen_in before) (map vec_items vs) texts c.take.new.wanted c.take.new.missing.items) (ap (λ (text : List ℕ). done ++ text ∷ []) c.as_slice.ensures.value ∙ sym (next_text vs i v c.texts-test.true c.text-item.is)) next
