use Rattle.krb_editors.proofs.ForAnswers.{ap, arith, ◌<◌, ◌≤◌, length, take_all, SessionState, ran_none, cache_rules, CacheState, cache_session, new_session, ran_line, ran_to_end}
use Rattle.krb_editors.proofs.ccedit.run_lines.Goals as goal

-- no line was run yet
pub lines-init : goal.lines-init
lines-init g c =
    let begins = ap cache_session c.new-session.ensures.is in
    rw begins (ran_none cache_rules (new_session c.args.cache.state) _ (rw begins at c.new-session.ensures.ready))

-- one line more
pub lines-preserved : goal.lines-preserved
lines-preserved g c =
    let below : c.lines.line-index < length c.args.lines.now = omega arith in
    ran_line (new_session c.args.cache.state) (cache_session c.lines.session) (cache_session c.run_line.new.session) c.args.lines.now c.lines.line-index c.line-item.result _ _ _ below c.line-item.is c.lines.invariant c.in_ok-run_line.ensures

-- all were run
pub returns-clause-ran : goal.returns-clause-ran
returns-clause-ran g c =
    let past : length c.args.lines.now ≤ c.lines.line-index = omega arith in
    ran_to_end cache_rules (new_session c.args.cache.state) (cache_session c.lines.session) _ _ _ (rw (take_all _ c.args.lines.now past) at c.lines.invariant)

pub returns-clause-left : goal.returns-clause-left
returns-clause-left g c =
    let past : length c.args.lines.now ≤ c.lines.line-index = omega arith in
    let ran = rw (take_all _ c.args.lines.now past) at c.lines.invariant in
    rw c.into_store.ensures (ap (λ (s : SessionState CacheState). s.store) ran.state)
