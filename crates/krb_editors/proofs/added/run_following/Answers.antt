use Rattle.krb_editors.proofs.ForAnswers.{[], ◌<◌, length, map, take, arith, session_of, content_of, ran_none, same_followed, same_refl, one_more, ran_event}
use Rattle.krb_editors.proofs.added.run_following.Goals as goal

-- no event was run yet
pub events-init : goal.events-init
events-init g c = record {
  ran = ran_none g.P.Placed.rules (session_of g.P.Placed.state_of c.args.session.now) (map content_of c.args.replies.now.items) c.requires;
  added = rw c.new-added.ensures.empty (same_refl []);
}

-- one event more
pub events-preserved : goal.events-preserved
events-preserved g c =
    let r = g.P.Placed.rules in
    let start = session_of g.P.Placed.state_of c.args.session.now in
    let old = session_of g.P.Placed.state_of c.events.session in
    let new = session_of g.P.Placed.state_of c.apply.new.session in
    let events = c.args.events.now in
    let i = c.events.event-index in
    let e = c.event-item.result in
    let below : i < length events = omega arith in
    let ran = c.events.invariant.ran in
    record {
      ran = ran_event r start old new events i e _ _ _ below c.event-item.is ran c.in_ok-apply.ensures.ran;
      added = rw (one_more events i e below c.event-item.is) (same_followed r start old (take i events) e c.events.added.keys c.apply.new.added.keys ran.state c.events.invariant.added c.in_ok-apply.ensures.added);
    }
