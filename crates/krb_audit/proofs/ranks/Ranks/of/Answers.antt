use Rattle.krb_audit.proofs.ForAnswers.{[], ap, sym, subst, refl, ◌∙◌, map, placed_entries, AreNewest, AreRows, ranked, shown_rank}
use Rattle.krb_audit.proofs.ranks.Ranks.of.Goals as goal

pub returns : goal.returns
returns g c =
    let xs = placed_entries c.args.keytab.now.state in
    let are = c.in_ok-rows.ensures in
    let stamps = c.in_ok-newest.ensures xs xs (subst (AreRows xs xs) (sym c.deref.ensures.value) are) in
    let strong = c.in_ok-strong.ensures xs (subst (AreRows xs xs) (sym c.deref-2.ensures.value) are) (subst (AreNewest xs xs) (sym c.deref-3.ensures.value) stamps) in
    ap (map shown_rank) c.into_iter.ensures.rest ∙ c.in_ok-items.ensures
    ∙ rw (c.deref-4.ensures.value, c.deref-5.ensures.value, c.deref-6.ensures.value) (ranked xs c.in_ok-newest.newest.items c.in_ok-strong.strong.items stamps strong [] xs c.in_ok-rows.rows.items refl are)
