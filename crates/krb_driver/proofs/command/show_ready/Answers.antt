use Rattle.krb_driver.proofs.ForAnswers.{sym, ◌∙◌, unshown_end}
use Rattle.krb_driver.proofs.command.show_ready.Goals as goal

pub returns-then-has_failed : goal.returns-then-has_failed
returns-then-has_failed g c = unshown_end c.args.out.now (sym c.has_failed.ensures ∙ c.if-has_failed.true) g.S.Show.page c.args.file.now c.args.ready
