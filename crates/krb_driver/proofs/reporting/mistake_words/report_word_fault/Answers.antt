use Rattle.krb_driver.proofs.Words.{writes_alone}
use Rattle.krb_driver.proofs.reporting.mistake_words.report_word_fault.Goals as goal

-- words are not shown
pub returns-clause-writes : goal.returns-clause-writes
returns-clause-writes g c =
    rw (← c.err.view_is, c.in-BadLine.is) (writes_alone (record { to = c.err.inside.to; explains = c.err.inside.explains }) c.write_pieces-2.new.out c.in-BadLine.line c.if-err.false c.write_pieces-2.ensures)
