use Rattle.krb_ccache.proofs.Cited.{refl, sym, ◌∙◌, arith}
use Rattle.krb_ccache.proofs.HeaderFields.{fields_step, fields_end, field_shrinks, field_left}
use Rattle.krb_ccache.proofs.open.header.are_fields.Goals as goal

pub loop-after-init : goal.loop-after-init
loop-after-init c = record { same = refl; fits = λ i. omega (arith, c.type_inv.bytes i) }

pub loop-after-smaller : goal.loop-after-smaller
loop-after-smaller c = field_shrinks c.loop-after.rest.now _ c.in-Some.after.now c.loop-after.invariant.fits c.in-Some.ensures

pub loop-after-preserved : goal.loop-after-preserved
loop-after-preserved c = search (arith, fields_step, field_left)

pub returns : goal.returns
returns c = c.is_empty.ensures ∙ sym (fields_end c.loop-after.rest.now c.loop-after.invariant.fits c.in_default.ensures) ∙ c.loop-after.invariant.same
