use Rattle.krb_driver.proofs.ForAnswers.{◌≡◌, arith, etype_option, adds_number}
use Rattle.krb_driver.proofs.reporting.hints.add_etypes.Goals as goal

pub etypes-preserved : goal.etypes-preserved
etypes-preserved g c = adds_number (etype_option c.args.found.now) c.etypes.etype _ _ _ _ _ _ c.etypes.invariant (rw c.etype_option.ensures at c.add_line.ensures)

pub returns : goal.returns
returns g c =
    let all : c.etypes.etype ≡ 27 = omega arith in
    rw all at c.etypes.invariant
