use Rattle.krb_editors.proofs.Cited.{[], map, take, session_of, history, Ran, content_of, HaveSame, followed_over}
use Rattle.krb_editors.proofs.added.run_following.Given as goal

-- the events so far were run, and the places followed
abbrev pub invariant-events : goal.invariant-events
invariant-events g l =
    let start = session_of g.P.Placed.state_of l.fn.session in
    let events = take l.event-index l.events in
    record {
      ran : Ran g.P.Placed.rules start (session_of g.P.Placed.state_of l.session) events (map content_of l.fn.replies.items) (map content_of l.replies.items);
      added : HaveSame l.added.keys (followed_over g.P.Placed.rules [] (history g.P.Placed.rules start events));
    }
