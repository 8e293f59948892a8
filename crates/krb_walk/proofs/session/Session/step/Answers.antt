use Rattle.krb_walk.specs.Events.{session_of}
use Rattle.krb_walk.proofs.Runs.{ran_step}
use Rattle.krb_walk.proofs.session.Session.step.Goals as goal

pub returns-clause-ran : goal.returns-clause-ran
returns-clause-ran g c = ran_step g.P.Placed.rules (session_of g.P.Placed.state_of c.args.self.now) (session_of g.P.Placed.state_of c.move_on.new.self) c.args.walk c.move_on.ensures.ready c.move_on.ensures.state
