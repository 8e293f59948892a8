use Rattle.krb_walk.proofs.Table.{go_shown}
use Rattle.krb_walk.proofs.session.Session.go_to.Goals as goal

pub returns : goal.returns
returns g c = go_shown c.args.self.now c.self.inside.store c.self.inside.cursors c.self.inside.count c.args.walk c.args.place c.self.view_is c.requires.is_there
