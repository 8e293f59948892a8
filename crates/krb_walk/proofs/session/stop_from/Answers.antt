use Rattle.krb_walk.proofs.Cited.{ap, ◌∙◌, is_place}
use Rattle.krb_walk.specs.History.{place_after}
use Rattle.krb_walk.proofs.Places.{stop_place}
use Rattle.krb_walk.proofs.Table.{place_after-stop_at}
use Rattle.krb_walk.proofs.session.stop_from.Goals as goal

pub returns-clause-place : goal.returns-clause-place
returns-clause-place g c =
    let store = g.P.Placed.rules.seen (g.P.Placed.state_of c.args.store.now) in
    ap (is_place store) (c.place_after.ensures ∙ ap place_after c.stop_at-stop.ensures ∙ place_after-stop_at store c.args.cursor) ∙ stop_place store c.args.cursor
