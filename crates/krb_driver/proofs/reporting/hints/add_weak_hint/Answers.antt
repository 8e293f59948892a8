use Rattle.krb_driver.proofs.ForAnswers.{ap, sym, ◌∙◌, Bool, not, ◌&&◌, adds_then}
use Rattle.krb_driver.proofs.reporting.hints.add_weak_hint.Goals as goal

pub returns : goal.returns
returns g c =
    let whole = adds_then _ _ _ _ _ _ _ _ (rw c.remove_command.ensures at c.add_pieces.ensures) (adds_then _ _ _ _ _ _ _ _ c.add_etypes.ensures (rw c.last_of.ensures at c.add_pieces-2.ensures)) in
    rw (ap (λ (b : Bool). b && not c.args.findings.now.lacks_strong) (sym c.has.ensures) ∙ c.if-not-is_due.false) whole
