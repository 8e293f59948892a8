use Rattle.krb_wire.proofs.Cited.{ap, subst, ◌∙◌, flat_map, AllByRecursion, flat_map-cons, data_text, FitsLength}
use Rattle.krb_wire.proofs.PenLemmas.{left_next}
use Rattle.krb_wire.proofs.pen.Pen.put_components.Goals as goal

pub loop-component-preserved : goal.loop-component-preserved
loop-component-preserved g c =
    let o = c.args.lengths in
    let cut = ap (flat_map (data_text o)) c.in-Some.ensures.steps ∙ flat_map-cons (data_text o) c.in-Some.component.now c.next.new.self in
    record {
      fits = (subst (AllByRecursion (FitsLength o)) c.in-Some.ensures.steps c.loop-component.invariant.fits).1;
      left = left_next c.loop-component.invariant.left cut c.put_data.ensures;
    }
