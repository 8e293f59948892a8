use Rattle.krb_editors.proofs.ForAnswers.{sym, ◌∙◌, cache_session, set_placed}
use Rattle.krb_editors.proofs.ccedit.set_value.Goals as goal

-- the addition was not refused, and the others were removed
pub returns : goal.returns
returns g c =
    set_placed (cache_session c.args.session.now) (cache_session c.put.new.session) (cache_session c.run.new.self) c.args.setting.now c.in_ok-removals.removals.items _ _ _
    (rw c.store.ensures at c.in_ok-removals.ensures) (sym c.in_ok-put.ensures.refused ∙ c.if-branch.false) c.in_ok-put.ensures.ran (rw c.deref.ensures.value at c.in_ok-run.ensures.ok)
