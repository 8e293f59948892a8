use Rattle.krb_driver.proofs.ForAnswers.{Adds, ending_words, words_if, Adds-none, adds_then, Writes-two}
use Rattle.krb_driver.proofs.reporting.write_ending.Goals as goal
use Rattle.krb_driver.proofs.reporting.write_ending.Goals.{then-explains, else-explains}

pub returns : goal.returns
returns g c =
    let due = words_if c.args.explains (ending_words c.args.about.file.now c.args.about.line c.args.about.details c.args.ending) in
    let words : Adds c.add_line.new.err c.add_line.new.gathered.items c.if-explains.err c.if-explains.gathered.items due = elim c.if-explains.branch [
      | then-explains w ↦ rw (w.err-is, w.gathered-is, w.if-explains.true) w.add_ending_words.ensures
      | else-explains w ↦ rw (w.err-is, w.gathered-is, w.if-explains.false) (Adds-none _ _)
    ] in
    Writes-two _ _ _ _ _ _ _ _ (rw (c.new-gathered.ensures, c.ending_message.ensures) at c.add_line.ensures)
    (adds_then _ _ _ _ _ _ _ _ words c.add_aftermath.ensures) c.send.ensures
