use Rattle.krb_ktutil.proofs.ForAnswers.{arith, add-one, size_from-step}
use Rattle.krb_ktutil.proofs.ktutil.words.word_size.Goals as goal

pub loop-size-preserved : goal.loop-size-preserved
loop-size-preserved c =
    rw (c.quotes_next-is_quoted.ensures, add-one) (omega (arith, size_from-step c.args.text.now c.loop-size.size c.loop-size.is_quoted c.loop-size-test.true (cc), c.loop-size.invariant))
