use Rattle.krb_ktutil.proofs.ForAnswers.{arith, Appends-trans, AppendsPrefix-after, AppendsPrefix-all}
use Rattle.krb_ktutil.proofs.ktutil.write_text.Goals as goal

pub returns : goal.returns
returns g c = λ start before writes. grind (arith, writes.whole, c.has_failed.ensures, c.if-has_failed.false, c.put.ensures.ok, c.put.ensures.prefix, c.put.ensures.failed, Appends-trans, AppendsPrefix-all, AppendsPrefix-after)
