use Rattle.krb_walk.proofs.Cited.{ap, SessionState}
use Rattle.krb_walk.proofs.Table.{stepped, not_stepped}
use Rattle.krb_walk.proofs.session.Session.move_on.Goals as goal

pub returns-in_default-clause-state : goal.returns-in_default-clause-state
returns-in_default-clause-state g c = not_stepped g.P.Placed.rules g.P.Placed.state_of c.args.self.now c.args.walk c.in_default.ensures

pub returns-clause-state : goal.returns-clause-state
returns-clause-state g c = stepped g.P.Placed.rules g.P.Placed.state_of c.args.self.now c.go_to.new.self c.self.inside.store c.args.walk c.in-Some.cursor _ (ap (λ (s : SessionState g.row.P.Denot). s.store) c.self.view_is) c.in-Some.ensures c.stop_from-stop.ensures.next c.go_to.ensures
