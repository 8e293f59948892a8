use Rattle.krb_ccache.proofs.Cited.{length, length-append, ap, arith}
use Rattle.krb_ccache.proofs.NewTexts.{new_texts_step, new_texts_none}
use Rattle.krb_ccache.proofs.new_image.room_after_texts.Goals as goal

pub returns-in_err-room-clause-none : goal.returns-in_err-room-clause-none
returns-in_err-room-clause-none c = search (arith, new_texts_step, length-append)

pub loop-first-smaller : goal.loop-first-smaller
loop-first-smaller c =
    (new_texts_step c.args.version c.loop-first.rest.now _ c.in-Some.after.now c.loop-first.invariant.fits c.in-Some.ensures.some).less

pub loop-first-preserved : goal.loop-first-preserved
loop-first-preserved c = search (arith, new_texts_step, length-append)

pub returns-clause-some : goal.returns-clause-some
returns-clause-some c =
    omega (arith, c.loop-first.invariant.left, ap length (new_texts_none c.args.version c.loop-first.rest.now c.loop-first.invariant.fits c.in_default.ensures.none))
