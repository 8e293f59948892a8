use Rattle.krb_driver.proofs.ForAnswers.{adds_then, Writes-two}
use Rattle.krb_driver.specs.Mistakes.{mistake_words}
use Rattle.krb_driver.proofs.reporting.mistake_words.report_mistake.Goals as goal

-- what is wrong, and after it the help and what follows
pub returns : goal.returns
unfolding mistake_words
returns g c =
    Writes-two _ _ _ _ _ _ _ _ (rw (c.new-gathered.ensures, c.mistake_pieces.ensures) at c.add_line.ensures)
    (adds_then _ _ _ _ _ _ _ _ (rw c.help_pieces.ensures at c.add_line-2.ensures) (rw c.more_pieces.ensures at c.add_line-3.ensures)) c.send.ensures
