use Rattle.krb_driver.proofs.ForAnswers.{sym, ◌∙◌, sends_put}
use Rattle.krb_driver.proofs.reporting.writing.send.Goals as goal

pub returns : goal.returns
returns g c =
    sends_put c.args.err.now c.put.new.out c.args.gathered.now.items c.put.result (sym c.has_failed.ensures ∙ c.if-has_failed.false)
    (rw c.as_slice.ensures.value at c.put.ensures.ok) (rw c.as_slice.ensures.value at c.put.ensures.prefix) c.put.ensures.failed
