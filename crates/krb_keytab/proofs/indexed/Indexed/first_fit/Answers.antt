use Rattle.krb_keytab.proofs.Cited.{◌∙◌, ℕ, ap, subst, looks_for, IsFit, arith, nat_tests}
use Rattle.std.specs.Prelude.{Option}
use Rattle.krb_keytab.proofs.indexed.Indexed.first_fit.Goals as goal

pub slot-requires : goal.slot-requires
slot-requires g c = (subst (λ (o : Option ℕ). IsFit c.args.self.now.state c.max.result o) c.in-Some.is c.fit-number.ensures.fit).0

pub returns-in-Some-clause-first : goal.returns-in-Some-clause-first
returns-in-Some-clause-first g c = grind (arith, nat_tests)

pub returns-in-None-clause-first : goal.returns-in-None-clause-first
returns-in-None-clause-first g c = grind (arith, nat_tests)

pub returns-in-Some-clause-looks : goal.returns-in-Some-clause-looks
returns-in-Some-clause-looks g c = λ height least. c.fit-number.ensures.looks height least ∙ ap (looks_for height) c.in-Some.is
