use Rattle.krb_wire.proofs.AtomLemmas.{named-is}
use Rattle.krb_wire.proofs.parse.read_name.Goals as goal

pub returns : goal.returns
returns g c = named-is _ _ _ _ _ c.requires c.in_ok-realm.ensures c.in_ok-components.ensures
