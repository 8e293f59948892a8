use Rattle.krb_keytab.proofs.Stores.{few_cells}
use Rattle.krb_keytab.proofs.keytab.Keytab.cell_count.Goals as goal

pub returns-clause-few : goal.returns-clause-few
returns-clause-few g c =
    few_cells _ _ _ _ _ c.self.invariant.0 c.self.invariant.1 c.self.invariant.2
