use Rattle.krb_wire.specs.Names.{joined_components}
use Rattle.krb_wire.proofs.TextLemmas.{Left, joined_from}
use Rattle.krb_wire.proofs.text.push_components.Given as goal

abbrev pub invariant-loop-component : goal.invariant-loop-component
invariant-loop-component g l = Left (joined_components (g.N.Name.parts l.name).components) (joined_from l.first l.component-iterator) l.fn.out l.out
