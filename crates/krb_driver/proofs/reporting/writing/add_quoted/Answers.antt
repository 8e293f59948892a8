use Rattle.krb_driver.proofs.ForAnswers.{sym, quoted_hidden}
use Rattle.krb_driver.proofs.reporting.writing.add_quoted.Goals as goal

-- what may be a key is not shown
pub returns-then-has_key : goal.returns-then-has_key
returns-then-has_key g c = rw (quoted_hidden c.args.word.now (sym (c.if-has_key.ensures {u = tt}))) c.add.ensures
