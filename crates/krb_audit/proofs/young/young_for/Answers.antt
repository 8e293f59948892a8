use Rattle.krb_audit.proofs.ForAnswers.{ℕ, Option, are_young, subst, sym}
use Rattle.krb_audit.specs.Standings.{AreYoungOf}
use Rattle.krb_audit.proofs.young.young_for.Goals as goal

pub returns : goal.returns
returns g c = λ all xs are newest.
    subst (λ (age : Option ℕ). AreYoungOf age c.args.now all xs c.in_ok-by_name.field-0.items) (sym c.in-Some.is) (are_young c.args.now c.in-Some.seconds all xs c.args.rows.now c.args.newest.now _ are newest c.in_ok-by_name.ensures)
