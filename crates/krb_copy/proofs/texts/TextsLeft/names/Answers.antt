use Rattle.krb_copy.proofs.ForAnswers.{[], ℕ, List, Option, None, Some, ◌≡◌, ap, sym, subst, name_text, AllByRecursion, AreTexts, asked_as, asked_texts, name_in, name_texts, principal_parts, Parts, new_names, own_names}
use Rattle.krb_copy.proofs.texts.TextsLeft.names.Goals as goal

pub returns-in-None : goal.returns-in-None
returns-in-None g c = λ asked kvno texts.
    let left = c.args.self in
    let is : name_in c.args.new_name ≡ None = ap (λ o. name_in o) c.in-None.is in
    let own = subst (λ (o : Option Parts). AreTexts (asked_texts o asked) left.bytes.now left.lens.now) is texts in
    subst (λ (o : Option Parts). AreTexts (name_texts (asked_as (record { name = o; kvno = kvno }) asked)) left.bytes.now left.lens.now) (sym is)
    (subst (λ (ts : List (List ℕ)). AreTexts ts left.bytes.now left.lens.now) (sym (own_names kvno asked)) own)

pub returns-in-Some : goal.returns-in-Some
returns-in-Some g c = λ asked kvno texts.
    let left = c.args.self in
    let name = principal_parts c.in-Some.field-0.now in
    let is : name_in c.args.new_name ≡ Some name = ap (λ o. name_in o) c.in-Some.is in
    let first = c.next.ensures (name_text name) [] (subst (λ (o : Option Parts). AreTexts (asked_texts o asked) left.bytes.now left.lens.now) is texts) in
    subst (λ (o : Option Parts). AllByRecursion (λ x. c.next.result.now ≡ name_text x.1.principal) (asked_as (record { name = o; kvno = kvno }) asked)) (sym is) (new_names name kvno c.next.result.now asked first.0)
