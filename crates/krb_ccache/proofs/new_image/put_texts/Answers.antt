use Rattle.krb_ccache.proofs.Cited.{length-append, arith, puts_then, left_next, left_none}
use Rattle.krb_ccache.proofs.NewTexts.{new_texts_none, new_texts_step}
use Rattle.krb_ccache.proofs.new_image.put_texts.Goals as goal

pub put_bytes-requires : goal.put_bytes-requires
put_bytes-requires c = search (arith, new_texts_step, length-append)

pub put_bytes-requires-in-Some : goal.put_bytes-requires-in-Some
put_bytes-requires-in-Some c = search (arith, new_texts_step, length-append)

pub loop-first-smaller : goal.loop-first-smaller
loop-first-smaller c = search (arith, new_texts_step)

pub loop-first-preserved : goal.loop-first-preserved
loop-first-preserved c =
    let s = new_texts_step c.args.version c.loop-first.rest.now _ c.in-Some.after.now c.loop-first.invariant.fits c.in-Some.ensures.some in
    record { left = left_next c.loop-first.invariant.left s.cut (puts_then c.put_bytes.ensures c.put_bytes-in-Some.ensures); fits = s.fits }

pub returns : goal.returns
returns c = left_none c.loop-first.invariant.left (new_texts_none c.args.version c.loop-first.rest.now c.loop-first.invariant.fits c.in_default.ensures.none)
