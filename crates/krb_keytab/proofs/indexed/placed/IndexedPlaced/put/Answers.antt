use Rattle.krb_keytab.proofs.StoreChanges.{addition_puts}
use Rattle.krb_keytab.proofs.indexed.placed.IndexedPlaced.put.Goals as goal

pub returns-clause-puts : goal.returns-clause-puts
returns-clause-puts g c = addition_puts c.args.self.now.state c.add.new.self.state c.args.item.now c.add.result c.add.ensures.gives
