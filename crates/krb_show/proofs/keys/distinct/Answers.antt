use Rattle.krb_show.proofs.Cited.{arith, ◌≡◌, ◌++◌, ◌∙◌, ap, sym, ℕ, [], ◌∷◌, Bool, true, false, cond, not, ◌+◌, drop, get_or, drop-cons, add-one, fold, with_number}
use Rattle.krb_show.proofs.Distinct.{has_again, has_push, is_among}
use Rattle.krb_show.proofs.keys.distinct.Goals.{then-branch+in_ok-push, else-branch}
use Rattle.krb_show.proofs.keys.distinct.Goals as goal

-- the next number was seen
pub numbers-preserved : goal.numbers-preserved
numbers-preserved g c =
    let i = c.numbers.number-index in
    let ns = c.args.numbers.now in
    let n = get_or ns i 0 in
    let each = c.numbers.each.items in
    let has = c.numbers.invariant.seen in
    let e = c.in_ok-insert.ensures in
    let left = drop-cons ns i 0 c.numbers-test.true ∙ ap (λ (k : ℕ). n ∷ drop k ns) (sym (add-one i)) in
    let whole = sym (ap (fold with_number each) left) ∙ c.numbers.invariant.each in
    let added = e.added ∙ ap not (has n) in
    let next = λ (a : Bool) (is : is_among each n ≡ a). ap (λ (b : Bool). fold with_number (cond b each (each ++ n ∷ [])) (drop (i + 1) ns)) (sym is) ∙ whole in
    elim c.if-branch.branch [
      | then-branch+in_ok-push w ↦
          rw (w.each-is, w.in_ok-push.ensures.items) (record {
            each = next false (grind (arith, added, w.if-branch.true));
            seen = has_push c.numbers.seen c.insert.new.self each n has e.updates.0;
          })
      | else-branch w ↦
          rw w.each-is (let among : is_among each n ≡ true = grind (arith, added, w.if-branch.false) in record {
            each = next true among;
            seen = has_again c.numbers.seen c.insert.new.self each n has e.updates.0 among;
          })
    ]
