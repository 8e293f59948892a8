use Rattle.krb_wire.proofs.Cited.{◌≡◌, ◌++◌, items_of}
use Rattle.krb_wire.proofs.principal.copy_components.Given as goal

abbrev pub invariant-loop-component : goal.invariant-loop-component
invariant-loop-component g l = items_of l.all.items ++ l.component-iterator ≡ (g.N.Name.parts l.name).components
