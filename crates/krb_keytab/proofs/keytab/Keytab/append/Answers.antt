use Rattle.krb_keytab.proofs.Cited.{◌≡◌, ℕ, List, [], ◌∷◌, ◌++◌, Err, length, drop, refl, ap, sym, subst, ◌∙◌, arith, KtFormat, Live, contents, end_after, KeytabState, InMemory}
use Rattle.krb_keytab.proofs.Stores.{state_is, keytab_of, few_cells}
use Rattle.krb_keytab.proofs.Additions.{appends, append_full, append_fits, append_ok, append_longer, append_no_longer}
use Rattle.std.proofs.lemmas.Result.{err_from_is_err_and}
use Rattle.krb_keytab.proofs.keytab.Keytab.append.Goals as goal

pub returns-then-len_with-self-clause-appended : goal.returns-then-len_with-self-clause-appended
returns-then-len_with-self-clause-appended g c =
    let a = appends _ _ _ _ _ _ c.len_with.result c.len.result c.self.invariant.1 (state_is c.self.view_is) c.requires.whole c.len_with.ensures c.len.ensures.len in
    (append_full _ _ _ _ _ _ c.len_with.result a c.if-len_with-self.true, refl)

pub overflow_add-self : goal.overflow_add-self
overflow_add-self g c =
    omega (arith, few_cells _ _ _ _ _ c.self.invariant.0 c.self.invariant.1 c.self.invariant.2)

pub returns-clause-appended : goal.returns-clause-appended
returns-clause-appended g c =
    let i = c.self.inside in
    let a = appends i.format i.limit i.image.items _ _ i.end c.len_with.result c.len.result c.self.invariant.1 (state_is c.self.view_is) c.requires.whole c.len_with.ensures c.len.ensures.len in
    let same : c.args.form.now.format ≡ i.format = c.requires.format ∙ sym (ap (λ (y : KeytabState). y.format) (state_is c.self.view_is)) in
    let put = subst (λ (f : KtFormat). contents f (drop 2 c.append_record.new.image.items) ≡ record { cells = (contents f (drop 2 i.image.items)).cells ++ Live c.args.form.now.bytes ∷ []; end = end_after (contents f (drop 2 i.image.items)).end }) same c.in_ok-self-inside.ensures.changed.contents in
    append_ok i.format i.limit i.image.items c.append_record.new.image.items _ _ i.end c.len_with.result a c.if-len_with-self.false put

pub returns-in_err-self-inside-clause-appended : goal.returns-in_err-self-inside-clause-appended
returns-in_err-self-inside-clause-appended g c =
    let i = c.self.inside in
    let a = appends i.format i.limit i.image.items _ _ i.end c.len_with.result c.len.result c.self.invariant.1 (state_is c.self.view_is) c.requires.whole c.len_with.ensures c.len.ensures.len in
    let spelled = rw c.deref.ensures.value at (sym c.spelled_of.ensures.same ∙ c.spelled_of.ensures.spelled) in
    let items : length i.image.items ≡ i.image.len = let ok = i.image.ok.0 in omega arith in
    let p = err_from_is_err_and c.from_residual.result c.from_residual.ensures.1 in
    rw (p.1 ∙ ap Err p.2) (
      append_fits i.format i.limit i.image.items _ _ i.end c.len_with.result a c.if-len_with-self.false,
      append_longer i.format i.limit i.image.items _ _ i.end c.len_with.result a spelled (omega (arith, a.len, c.in_err-self-inside.ensures.full, items)),
      ap (λ (b : List ℕ). keytab_of i.format i.limit b) c.in_err-self-inside.ensures.err ∙ (state_is c.self.view_is),
    )

pub returns-clause-room : goal.returns-clause-room
returns-clause-room g c = λ no_longer.
    let i = c.self.inside in
    let a = appends i.format i.limit i.image.items _ _ i.end c.len_with.result c.len.result c.self.invariant.1 (state_is c.self.view_is) c.requires.whole c.len_with.ensures c.len.ensures.len in
    let spelled = rw c.deref.ensures.value at (sym c.spelled_of.ensures.same ∙ c.spelled_of.ensures.spelled) in
    let items : length i.image.items ≡ i.image.len = let ok = i.image.ok.0 in omega arith in
    let fits = append_no_longer i.format i.limit i.image.items _ _ i.end c.len_with.result a spelled no_longer in
    c.append_record.ensures.room (omega (arith, a.len, fits, items)) ∙ ap (λ (y : InMemory). y.room) c.self.view_is
