use Rattle.krb_walk.proofs.Cited.{◌≡◌, ◌+◌, List, [], ◌∷◌, ◌++◌, map, take, sym, ap, ◌∙◌, subst, take_all, take_more, map-append, Event, ReplyContent, content_of, IsReady, SessionState, session_of, reply_to, Ran}
use Rattle.krb_walk.proofs.Runs.{on_err, ran_none, ran_more}
use Rattle.krb_walk.proofs.session.Session.run.Goals as goal

pub loop-event-init : goal.loop-event-init
loop-event-init g c =
    let now = λ (s : SessionState g.row.P.Denot). session_of g.P.Placed.state_of s in
    let ready : IsReady g.P.Placed.rules (now c.args.self.now) = subst (λ (s : SessionState g.row.P.Denot). IsReady g.P.Placed.rules (now s)) c.self.view_is c.self.invariant.ready in
    record { ran = ran_none g.P.Placed.rules (now c.args.self.now) _ ready; ready = ready }

pub loop-event-preserved : goal.loop-event-preserved
loop-event-preserved g c =
    let r = g.P.Placed.rules in
    let now = λ (s : SessionState g.row.P.Denot). session_of g.P.Placed.state_of s in
    let e = c.event-item.result in
    let more : take (c.loop-event.event-index + 1) c.args.events.now ≡ take c.loop-event.event-index c.args.events.now ++ e ∷ [] = take_more c.args.events.now c.loop-event.event-index e c.loop-event-test.true ∙ ap (λ (x : Event g.row.P-Item.Denot). take c.loop-event.event-index c.args.events.now ++ x ∷ []) (sym c.event-item.is) in
    let content : map content_of c.push_reserved.new.self.items ≡ map content_of c.loop-event.replies.items ++ reply_to r (now c.loop-event.self) e ∷ [] =
    ap (map content_of) c.push_reserved.ensures.items ∙ map-append content_of c.reserve.new.self.items (c.in_ok-reply.reply ∷ [])
    ∙ ap (λ xs. map content_of xs ++ content_of c.in_ok-reply.reply ∷ []) c.in_ok-reserve.ensures.items
    ∙ ap (λ (x : ReplyContent). map content_of c.loop-event.replies.items ++ x ∷ []) c.in_ok-reply.ensures.reply in
    let inv = c.loop-event.invariant in
    let ran = ran_more r (now c.args.self.now) (now c.loop-event.self) (now c.answer.new.self) (take c.loop-event.event-index c.args.events.now) e _ _ _ inv.ready inv.ran c.in_ok-reply.ensures.state c.in_ok-reply.ensures.lawful content in
    record {
      ran = subst (λ (es : List (Event g.row.P-Item.Denot)). Ran r (now c.args.self.now) (now c.answer.new.self) es (map content_of c.args.replies.now.items) (map content_of c.push_reserved.new.self.items)) (sym more) ran;
      ready = inv.ready;
    }

pub returns-in_err-reply-clause-err : goal.returns-in_err-reply-clause-err
returns-in_err-reply-clause-err g c =
    let now = λ (s : SessionState g.row.P.Denot). session_of g.P.Placed.state_of s in
    let so_far = take c.loop-event.event-index c.args.events.now in
    let content = λ (s : SessionState g.P.Placed.State). λ (content : List ReplyContent). Ran g.P.Placed.rules (now c.args.self.now) s so_far (map content_of c.args.replies.now.items) content in
    let same = sym c.in_err-reply.ensures.err in
    let kept = ap (map content_of) (sym c.reserve.ensures.items) in
    on_err c.from_residual-in_err-reply.result (record {
      done = c.loop-event.event-index;
      fewer = c.loop-event-test.true;
      ran = subst (λ s. content s (map content_of c.reserve.new.self.items)) same (subst (content (now c.loop-event.self)) kept c.loop-event.invariant.ran);
    })

pub returns-in_err-reserve-clause-err : goal.returns-in_err-reserve-clause-err
returns-in_err-reserve-clause-err g c =
    let now = λ (s : SessionState g.row.P.Denot). session_of g.P.Placed.state_of s in
    let content = λ (content : List ReplyContent). Ran g.P.Placed.rules (now c.args.self.now) (now c.loop-event.self) (take c.loop-event.event-index c.args.events.now) (map content_of c.args.replies.now.items) content in
    on_err c.from_residual.result (record {
      done = c.loop-event.event-index;
      fewer = c.loop-event-test.true;
      ran = subst content (ap (map content_of) (sym c.reserve.ensures.items)) c.loop-event.invariant.ran;
    })

pub returns-clause-ok : goal.returns-clause-ok
returns-clause-ok g c =
    let now = λ (s : SessionState g.row.P.Denot). session_of g.P.Placed.state_of s in
    let run = λ (es : List (Event g.row.P-Item.Denot)). Ran g.P.Placed.rules (now c.args.self.now) (now c.loop-event.self) es (map content_of c.args.replies.now.items) (map content_of c.loop-event.replies.items) in
    subst run (take_all c.loop-event.event-index c.args.events.now c.loop-event-test.false) c.loop-event.invariant.ran

pub returns-clause-err : goal.returns-clause-err
returns-clause-err g c = tt
