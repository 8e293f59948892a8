use Rattle.krb_audit.proofs.ForAnswers.{ℕ, sym, subst, ◌∙◌, placed_entries, AreNewest, AreRows, are_selected}
use Rattle.krb_audit.specs.Newest.{left_after}
use Rattle.krb_audit.specs.Standings.{more_kept}
use Rattle.krb_audit.proofs.versions.marks_of.Goals as goal

pub returns : goal.returns
returns g c =
    let xs = placed_entries c.args.keytab.now.state in
    let ys = left_after (more_kept c.args.kvno) xs in
    let are = c.in_ok-rows.ensures in
    let left = subst (λ (n : ℕ). AreRows xs (left_after n xs) c.in_ok-left.left.items) c.more_kept.ensures (c.in_ok-left.ensures xs (subst (AreRows xs xs) (sym c.deref.ensures.value) are)) in
    let stamps = c.in_ok-newest.ensures xs ys (subst (AreRows xs ys) (sym c.deref-2.ensures.value) left) in
    let young = c.in_ok-young.ensures xs ys (subst (AreRows xs ys) (sym c.deref-3.ensures.value) left) (subst (AreNewest xs ys) (sym c.deref-4.ensures.value) stamps) in
    c.in_ok-selected_marks.ensures
    ∙ rw (c.deref-8.ensures.value, c.deref-7.ensures.value, c.keep_selected.ensures, c.deref-5.ensures.value, c.deref-6.ensures.value) (are_selected c.args.kvno c.args.now xs c.in_ok-newest.newest.items c.in_ok-young.young.items c.in_ok-rows.rows.items c.in_ok-left.left.items are left stamps young)
