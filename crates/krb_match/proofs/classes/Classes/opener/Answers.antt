use Rattle.krb_match.proofs.ForAnswers.{◌≡◌, ◌∙◌, sym, ap, ℕ, List, Some, judged_among, named, placed_entries, KeytabState, bytes_eq-Decides, not-false, class_opens, first_named}
use Rattle.krb_match.proofs.classes.Classes.opener.Goals as goal

pub returns : goal.returns
returns g c = λ p place key found.
    let xs = placed_entries c.self.inside.keytab.now.state in
    let kvno = c.in_ok-kvno.kvno in
    let etype = c.in_ok-etype.etype in
    let name : c.in_ok-place.name.now ≡ c.args.key.now = (bytes_eq-Decides c.in_ok-place.name.now c.args.key.now).0 (not-false _ (sym c.ne.ensures ∙ c.if-ne.false)) in
    let first = sym (c.self.invariant.1 (c.hash_of.result, kvno, etype)) ∙ sym c.in_ok-place.ensures ∙ ap (λ (k : List ℕ). Some (c.in_ok-place.place, k)) name in
    sym (ap (λ (k : KeytabState). judged_among c.args.encryption (named p (placed_entries k))) c.self.view_is)
    ∙ class_opens c.args.encryption p kvno etype place xs (sym c.in_ok-kvno.ensures) (sym c.in_ok-etype.ensures) (first_named p c.hash_of.result kvno etype c.in_ok-place.place c.args.key.now xs key c.hash_of.ensures first ∙ found)
