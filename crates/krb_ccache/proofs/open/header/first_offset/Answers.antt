use Rattle.krb_ccache.proofs.Cited.{refl, sym, ◌∙◌, arith}
use Rattle.krb_ccache.proofs.HeaderFields.{offset_found, offset_step, offset_end, field_shrinks, field_left}
use Rattle.krb_ccache.proofs.open.header.first_offset.Goals as goal

pub loop-tag-init : goal.loop-tag-init
loop-tag-init c = record { same = refl; fits = λ i. omega (arith, c.type_inv.fields i) }

pub loop-tag-smaller : goal.loop-tag-smaller
loop-tag-smaller c = field_shrinks c.loop-tag.rest.now _ c.in-Some.after.now c.loop-tag.invariant.fits c.in-Some.ensures

pub loop-tag-preserved : goal.loop-tag-preserved
loop-tag-preserved c = record {
  same = sym (offset_step c.loop-tag.rest.now _ c.in-Some.after.now c.loop-tag.invariant.fits c.in-Some.ensures (sym c.offset_of.ensures ∙ c.in_default-offset_of.is)) ∙ c.loop-tag.invariant.same;
  fits = field_left c.loop-tag.rest.now _ c.in-Some.after.now c.loop-tag.invariant.fits c.in-Some.ensures;
}

pub returns : goal.returns
returns c = sym (offset_end c.loop-tag.rest.now c.loop-tag.invariant.fits c.in_default.ensures) ∙ c.loop-tag.invariant.same

pub returns-in-Some-offset_of : goal.returns-in-Some-offset_of
returns-in-Some-offset_of c = sym (sym c.loop-tag.invariant.same ∙ offset_found c.loop-tag.rest.now _ c.in-Some.after.now c.in-Some-offset_of.offset c.loop-tag.invariant.fits c.in-Some.ensures (sym c.offset_of.ensures ∙ c.in-Some-offset_of.is))
