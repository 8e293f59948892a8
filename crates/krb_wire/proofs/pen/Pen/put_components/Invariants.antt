use Rattle.krb_wire.proofs.Cited.{flat_map, AllByRecursion, data_text, FitsLength}
use Rattle.krb_wire.proofs.PenLemmas.{Left}
use Rattle.krb_wire.proofs.pen.Pen.put_components.Given as goal

abbrev pub invariant-loop-component : goal.invariant-loop-component
invariant-loop-component g l = record {
  fits : AllByRecursion (FitsLength l.lengths) l.component-iterator;
  left : Left (flat_map (data_text l.lengths) (g.N.Name.parts l.name).components) (flat_map (data_text l.lengths) l.component-iterator) l.fn.self l.self;
}
