use Rattle.krb_copy.proofs.ForAnswers.{◌≡◌, refl, ◌∙◌, ap, sym, subst, false, length, ℕ, ◌<◌, length-replicate, All, all_marked, as_long, get_or_none, replicate, rules}
use Rattle.krb_copy.proofs.diff.marks_of.Goals as goal

pub returns : goal.returns
returns g c = λ below below_too n.
    let len = c.args.len in
    let ours = c.args.ours.now in
    let start = c.resize.new.self.items in
    let next = c.mark.new.marks.items in
    let none : start ≡ replicate len false = search rules in
    let long : length start ≡ len = ap length none ∙ length-replicate len false in
    let long_too : length next ≡ len = ap length c.mark.ensures ∙ as_long c.args.other_keys.now ours start ∙ long in
    let first = all_marked c.args.other_keys.now n ours start (subst (λ (l : ℕ). All (λ r. r.number < l) ours) (sym long) below) in
    let second = all_marked c.args.our_keys.now n c.args.others.now next (subst (λ (l : ℕ). All (λ r. r.number < l) c.args.others.now) (sym long_too) below_too) in
    rw (c.mark-2.ensures, second, c.mark.ensures, first, none, get_or_none len n false) refl
