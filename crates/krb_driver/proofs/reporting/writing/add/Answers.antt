use Rattle.krb_driver.proofs.ForAnswers.{sym, ◌∙◌, adds_sent}
use Rattle.krb_driver.proofs.reporting.writing.add.Goals as goal

-- what was gathered is written, and then the text
pub returns : goal.returns
returns g c =
    let sent = rw (c.as_slice.ensures.value, c.in-Err.ensures.err) at c.in-Ok-put.ensures.ok in
    adds_sent c.args.err.now c.put.new.out c.put-2.new.out c.args.gathered.now.items c.clear.new.self.items c.args.text.now c.put-2.result (sym c.has_failed.ensures ∙ c.if-has_failed.false) sent c.put-2.ensures.ok c.put-2.ensures.prefix c.put-2.ensures.failed c.clear.ensures
