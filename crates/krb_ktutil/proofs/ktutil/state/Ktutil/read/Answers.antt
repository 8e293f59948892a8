use Rattle.krb_ktutil.proofs.ForAnswers.{◌≡◌, false, inl, refl, sym, ap, ◌∙◌, Ok, Err, is_other_type, Keytab, KtutilState, keytab_in, makes_given, with_entries}
use Rattle.krb_ktutil.proofs.ktutil.state.Ktutil.read.Goals as goal

pub returns-in-Ok : goal.returns-in-Ok
returns-in-Ok g c =
    let s = c.args.self.now in
    let named = c.of-file.ensures.named in
    let other : is_other_type Keytab c.args.word.now ≡ false = sym named.other ∙ c.if-file.false in
    rw (other, ← named.name) (makes_given g.F.Files s c.take_entries.new.self c.of-file.result.name.now (with_entries s c.args.number c.of-file.result.name.now) (λ _. refl) (keytab_in s.order) (rw (ap (λ (s : KtutilState). s.order) c.self.view_is) at c.load.ensures.ends) c.args.files.now c.load.new.files (Ok c.in-Ok.keytab.state) _ _
    (rw (ap (λ (s : KtutilState). s.order) c.self.view_is) at c.in-Ok.ensures.gives) c.take_entries.ensures)

pub returns-in-Err : goal.returns-in-Err
returns-in-Err g c =
    let s = c.args.self.now in
    let named = c.of-file.ensures.named in
    let other : is_other_type Keytab c.args.word.now ≡ false = sym named.other ∙ c.if-file.false in
    rw (other, ← named.name) (makes_given g.F.Files s s c.of-file.result.name.now (with_entries s c.args.number c.of-file.result.name.now) (λ _. refl) (keytab_in s.order) (rw (ap (λ (s : KtutilState). s.order) c.self.view_is) at c.load.ensures.ends) c.args.files.now c.load.new.files (Err c.in-Err.why) _ _
    (rw (ap (λ (s : KtutilState). s.order) c.self.view_is) at c.in-Err.ensures.gives) (inl (record { state_is = refl; effect_is = c.fails-in-Err.ensures.effect; quits_is = c.fails-in-Err.ensures.quits })))
