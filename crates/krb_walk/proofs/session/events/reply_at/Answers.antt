use Rattle.krb_walk.proofs.Cited.{ap, ◌∙◌, sym, Gave}
use Rattle.krb_walk.proofs.Lists.{some_is}
use Rattle.krb_walk.proofs.Cells.{stops_live, gave_reply}
use Rattle.krb_walk.proofs.session.events.reply_at.Goals as goal

pub bytes_at-requires : goal.bytes_at-requires
bytes_at-requires g c =
    let live = stops_live (g.P.Placed.rules.seen (g.P.Placed.state_of c.args.store.now)) c.args.cursor c.in-Live.place c.in-Live.next c.first.ensures.sound (sym c.in-Live.is ∙ c.requires) in
    some_is _ live.bytes live.is_there

pub returns-in_ok-bytes-in-Live-clause-reply : goal.returns-in_ok-bytes-in-Live-clause-reply
returns-in_ok-bytes-in-Live-clause-reply g c =
    let live = stops_live (g.P.Placed.rules.seen (g.P.Placed.state_of c.args.store.now)) c.args.cursor c.in-Live.place c.in-Live.next c.first.ensures.sound (sym c.in-Live.is ∙ c.requires) in
    ap (Gave c.args.walk c.in-Live.place c.in-Live.next) (c.in_ok-bytes-in-Live.ensures.items_if_clones_equal (λ _ _ same. same))
    ∙ gave_reply (g.P.Placed.rules.seen (g.P.Placed.state_of c.args.store.now)) c.args.walk c.args.cursor c.in-Live.place c.in-Live.next c.bytes_at.result.now live c.bytes_at.ensures
