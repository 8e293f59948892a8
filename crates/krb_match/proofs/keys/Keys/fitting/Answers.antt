use Rattle.krb_match.proofs.ForAnswers.{arith, Fitting, united}
use Rattle.krb_match.proofs.keys.Keys.fitting.Goals as goal

pub returns : goal.returns
returns g c = λ xs p keys number.
    let f : Fitting = record { one = c.firsts.result; two = c.firsts-2.result; three = c.firsts-3.result } in
    let versions = c.versions-one.ensures in
    united xs p c.args.number c.args.self.now keys number c.args.asked c.args.etype f (grind (arith, c.firsts.ensures)) (grind (arith, c.firsts-2.ensures)) (grind (arith, c.firsts-3.ensures))
