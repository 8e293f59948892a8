use Rattle.krb_editors.proofs.ForAnswers.{ap, inl, inr, ◌∙◌, Err, list_any, err_from_is_err_and, KeytabState, may_change, RunError, fair_first, Fails, IsSpent, can_hold, opens, Ends, fairly-failed, fairly-holds, makes-fairly, keytab_or_empty, RunsFairly, edits}
use Rattle.krb_editors.proofs.ktedit.EditKeytabCommand.make.Goals as goal

-- nothing was opened
pub returns-in_err-keytab : goal.returns-in_err-keytab
returns-in_err-keytab g c =
    let p = err_from_is_err_and c.from_residual.result c.from_residual.ensures.1 in
    let file = c.args.self.now.file in
    let events = c.args.self.now.events.items in
    let met = c.in_err-keytab.field-0.0 in
    rw (p.1 ∙ ap Err p.2) (fairly-holds g.F.Files c.args.files.now c.hold_if.new.files c.give.new.files (can_hold (list_any may_change events) file) file.name.now (opens file (keytab_or_empty c.args.self.now.v1_order file.in_place) (λ (k : KeytabState). Ends (edits events file.name.now k))) (fair_first (keytab_or_empty c.args.self.now.v1_order file.in_place) (RunsFairly events)) _ (rw (c.may_any_change.ensures, c.deref.ensures.value) at c.hold_if.ensures.held)
    (fairly-failed g.F.Files c.hold_if.new.files file (keytab_or_empty c.args.self.now.v1_order file.in_place) (λ (k : KeytabState). Ends (edits events file.name.now k)) (RunsFairly events) met.file.now met.error c.give.new.files c.in_err-keytab.ensures))

-- memory ran out
pub returns-in_err-edit : goal.returns-in_err-edit
returns-in_err-edit g c =
    let p = err_from_is_err_and c.from_residual-in_err-edit.result c.from_residual-in_err-edit.ensures.1 in
    let file = c.args.self.now.file in
    let events = c.args.self.now.events.items in
    let spent : IsSpent (Fails p.0.file.now p.0.error) = (p.0.file.now, ap (λ (t : RunError). Fails p.0.file.now t) p.2) in
    rw p.1 (fairly-holds g.F.Files c.args.files.now c.hold_if.new.files c.give.new.files (can_hold (list_any may_change events) file) file.name.now (opens file (keytab_or_empty c.args.self.now.v1_order file.in_place) (λ (k : KeytabState). Ends (edits events file.name.now k))) (fair_first (keytab_or_empty c.args.self.now.v1_order file.in_place) (RunsFairly events)) _ (rw (c.may_any_change.ensures, c.deref.ensures.value) at c.hold_if.ensures.held)
    (makes-fairly g.F.Files c.hold_if.new.files file (keytab_or_empty c.args.self.now.v1_order file.in_place) (λ (k : KeytabState). edits events file.name.now k) (RunsFairly events) c.in_ok-keytab.keytab.state _ c.give.new.files c.in_ok-keytab.ensures (inl spent) (inl spent)))

pub returns : goal.returns
returns g c =
    let file = c.args.self.now.file in
    let events = c.args.self.now.events.items in
    fairly-holds g.F.Files c.args.files.now c.hold_if.new.files c.give.new.files (can_hold (list_any may_change events) file) file.name.now (opens file (keytab_or_empty c.args.self.now.v1_order file.in_place) (λ (k : KeytabState). Ends (edits events file.name.now k))) (fair_first (keytab_or_empty c.args.self.now.v1_order file.in_place) (RunsFairly events)) _ (rw (c.may_any_change.ensures, c.deref.ensures.value) at c.hold_if.ensures.held)
    (makes-fairly g.F.Files c.hold_if.new.files file (keytab_or_empty c.args.self.now.v1_order file.in_place) (λ (k : KeytabState). edits events file.name.now k) (RunsFairly events) c.in_ok-keytab.keytab.state _ c.give.new.files c.in_ok-keytab.ensures
    (inr ((rw c.deref-2.ensures.value at c.in_ok-edit.ensures.made) file.name.now)) (inr (rw c.deref-2.ensures.value at c.in_ok-edit.ensures.fair)))
