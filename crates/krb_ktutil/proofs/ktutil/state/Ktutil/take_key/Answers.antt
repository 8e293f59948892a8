use Rattle.krb_ktutil.proofs.ForAnswers.{◌≡◌, ◌∙◌, ap, inl, sym, Nothing, Awaited, KtutilState, Key}
use Rattle.krb_ktutil.proofs.ktutil.state.Ktutil.take_key.Goals as goal

pub returns-in-Ok : goal.returns-in-Ok
returns-in-Ok g c =
    let awaits : c.args.self.now.awaiting ≡ Key c.in-Key.addition = sym (ap (λ (s : KtutilState). s.awaiting) c.self.view_is) ∙ c.in-Key.is in
    let given = rw (ap (λ (x : Awaited). x.enctype) c.addition.view_is) at c.in-Ok.ensures in
    rw (awaits, given) (rw awaits at c.add_with_key.ensures)

pub returns-in-Err-Fault : goal.returns-in-Err-Fault
returns-in-Err-Fault g c =
    let awaits : c.args.self.now.awaiting ≡ Key c.in-Key.addition = sym (ap (λ (s : KtutilState). s.awaiting) c.self.view_is) ∙ c.in-Key.is in
    let given = rw (c.in-Err-Fault.field-0-is, ap (λ (x : Awaited). x.enctype) c.addition.view_is) at c.in-Err-Fault.ensures in
    rw (awaits, given) (inl (record { state_is = ap (λ (s : KtutilState). record s { awaiting = Nothing }) c.self.view_is; effect_is = rw c.fault_error.ensures at c.fails.ensures.effect; quits_is = c.fails.ensures.quits }))
