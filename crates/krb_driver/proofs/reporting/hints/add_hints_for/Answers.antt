use Rattle.krb_driver.proofs.Shown.{adds_then}
use Rattle.krb_driver.proofs.reporting.hints.add_hints_for.Goals as goal

pub returns : goal.returns
returns g c =
    adds_then _ _ _ _ _ _ _ _ (rw c.hint-old.ensures at c.add_line.ensures)
    (adds_then _ _ _ _ _ _ _ _ c.add_weak_hint.ensures (rw c.hint-same.ensures at c.add_line-2.ensures))
