use Rattle.krb_ktutil.proofs.ForAnswers.{false, ap, sym, ◌∙◌, refl, inl, Ok, Err, KtutilState, keytab_or_empty, makes_given, written_to}
use Rattle.krb_ktutil.proofs.ktutil.state.Ktutil.write_held.Goals as goal

pub returns-in-Ok : goal.returns-in-Ok
returns-in-Ok g c =
    let s = c.args.self.now in
    makes_given g.F.Files s s c.args.name.now (written_to s c.args.number c.args.name.now) (λ _. refl) (keytab_or_empty s.order false) (rw (ap (λ (s : KtutilState). s.order) c.self.view_is) at c.load.ensures.ends) c.args.files.now c.load.new.files (Ok c.in-Ok.keytab.state) _ _
    (rw (ap (λ (s : KtutilState). s.order) c.self.view_is) at c.in-Ok.ensures.gives) (c.write_to.ensures c.args.self.now (sym (ap (λ (s : KtutilState). s.entries) c.self.view_is) ∙ sym c.deref.ensures.value))

pub returns-in-Err : goal.returns-in-Err
returns-in-Err g c =
    let s = c.args.self.now in
    makes_given g.F.Files s s c.args.name.now (written_to s c.args.number c.args.name.now) (λ _. refl) (keytab_or_empty s.order false) (rw (ap (λ (s : KtutilState). s.order) c.self.view_is) at c.load.ensures.ends) c.args.files.now c.load.new.files (Err c.in-Err.why) _ _
    (rw (ap (λ (s : KtutilState). s.order) c.self.view_is) at c.in-Err.ensures.gives) (inl (record { state_is = refl; effect_is = c.fails.ensures.effect; quits_is = c.fails.ensures.quits }))
