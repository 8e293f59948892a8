use Rattle.krb_walk.specs.Events.{session_of}
use Rattle.krb_walk.proofs.Runs.{ran_applied}
use Rattle.krb_walk.proofs.session.Session.apply.Goals as goal

pub returns-clause-ran : goal.returns-clause-ran
returns-clause-ran g c = ran_applied g.P.Placed.rules (session_of g.P.Placed.state_of c.args.self.now) (session_of g.P.Placed.state_of c.answer.new.self) c.args.event.now c.answer.result c.answer.ensures.ready c.answer.ensures.reply c.answer.ensures.state c.answer.ensures.lawful
