use Rattle.krb_walk.proofs.Fair.{joined_fair}
use Rattle.krb_walk.proofs.laws.joins.joined_runs_are_fair.Goals as goal

pub returns : goal.returns
returns g c = λ s events w z next v c join. joined_fair g.P.Placed.rules s events w g.Q.Placed.rules z next v c join
