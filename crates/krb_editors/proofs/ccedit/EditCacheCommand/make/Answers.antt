use Rattle.krb_editors.proofs.Cited.{ap, inl, inr, ◌∙◌, Err, list_any, err_from_is_err_and, CacheState, RunError, fair_first, Fails, IsSpent, can_hold, opens, Ends, fairly-failed, fairly-holds, makes-fairly, cache_of}
use Rattle.krb_editors.specs.Ccedit.{RunsFairly, edits, line_may_change}
use Rattle.krb_editors.proofs.ccedit.EditCacheCommand.make.Goals as goal

-- nothing was opened
pub returns-in_err-cache : goal.returns-in_err-cache
returns-in_err-cache g c =
    let p = err_from_is_err_and c.from_residual.result c.from_residual.ensures.1 in
    let file = c.args.self.now.file in
    let lines = c.args.self.now.lines.items in
    let met = c.in_err-cache.field-0.0 in
    rw (p.1 ∙ ap Err p.2) (fairly-holds g.F.Files c.args.files.now c.hold_if.new.files c.give.new.files (can_hold (list_any line_may_change lines) file) file.name.now (opens file cache_of (λ (k : CacheState). Ends (edits lines file.name.now k))) (fair_first cache_of (RunsFairly lines)) _ (rw (c.may_any_change.ensures, c.deref.ensures.value) at c.hold_if.ensures.held)
    (fairly-failed g.F.Files c.hold_if.new.files file cache_of (λ (k : CacheState). Ends (edits lines file.name.now k)) (RunsFairly lines) met.file.now met.error c.give.new.files c.in_err-cache.ensures))

-- memory ran out
pub returns-in_err-edit : goal.returns-in_err-edit
returns-in_err-edit g c =
    let p = err_from_is_err_and c.from_residual-in_err-edit.result c.from_residual-in_err-edit.ensures.1 in
    let file = c.args.self.now.file in
    let lines = c.args.self.now.lines.items in
    let spent : IsSpent (Fails p.0.file.now p.0.error) = (p.0.file.now, ap (λ (t : RunError). Fails p.0.file.now t) p.2) in
    rw p.1 (fairly-holds g.F.Files c.args.files.now c.hold_if.new.files c.give.new.files (can_hold (list_any line_may_change lines) file) file.name.now (opens file cache_of (λ (k : CacheState). Ends (edits lines file.name.now k))) (fair_first cache_of (RunsFairly lines)) _ (rw (c.may_any_change.ensures, c.deref.ensures.value) at c.hold_if.ensures.held)
    (makes-fairly g.F.Files c.hold_if.new.files file cache_of (λ (k : CacheState). edits lines file.name.now k) (RunsFairly lines) c.in_ok-cache.cache.state _ c.give.new.files c.in_ok-cache.ensures (inl spent) (inl spent)))

pub returns : goal.returns
returns g c =
    let file = c.args.self.now.file in
    let lines = c.args.self.now.lines.items in
    fairly-holds g.F.Files c.args.files.now c.hold_if.new.files c.give.new.files (can_hold (list_any line_may_change lines) file) file.name.now (opens file cache_of (λ (k : CacheState). Ends (edits lines file.name.now k))) (fair_first cache_of (RunsFairly lines)) _ (rw (c.may_any_change.ensures, c.deref.ensures.value) at c.hold_if.ensures.held)
    (makes-fairly g.F.Files c.hold_if.new.files file cache_of (λ (k : CacheState). edits lines file.name.now k) (RunsFairly lines) c.in_ok-cache.cache.state _ c.give.new.files c.in_ok-cache.ensures
    (inr ((rw c.deref-2.ensures.value at c.in_ok-edit.ensures.made) file.name.now)) (inr (rw c.deref-2.ensures.value at c.in_ok-edit.ensures.fair)))
