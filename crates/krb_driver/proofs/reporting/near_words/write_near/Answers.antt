use Rattle.krb_driver.proofs.ForAnswers.{found_fault_words, near_words, writes_one, Adds, words_if, Adds-none, adds_then, option_map, [], ◌++◌}
use Rattle.krb_driver.proofs.reporting.near_words.write_near.Goals as goal
use Rattle.krb_driver.proofs.reporting.near_words.write_near.Goals.{then-explains, else-explains}

pub returns : goal.returns
returns g c =
    let due = words_if c.args.explains (near_words (option_map (λ name. name.now) c.args.near) ++ found_fault_words c.args.file.now c.args.fault) in
    let words : Adds c.args.err.now [] c.if-explains.err c.if-explains.gathered.items due = elim c.if-explains.branch [
      | then-explains w ↦ rw (w.err-is, w.gathered-is, w.if-explains.true) (adds_then _ _ _ _ _ _ _ _ (rw (c.new-gathered.ensures, w.near_words.ensures) at w.add_line.ensures) (rw w.fault_words.ensures at w.add_line-then-explains.ensures))
      | else-explains w ↦ rw (w.err-is, w.gathered-is, w.if-explains.false, c.new-gathered.ensures) (Adds-none _ _)
    ] in
    writes_one _ _ _ _ _ words c.send.ensures
