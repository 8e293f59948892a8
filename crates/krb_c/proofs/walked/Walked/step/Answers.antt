use Rattle.std.proofs.Common.{◌∙◌, sym}
use Rattle.krb_c.proofs.StoreLemmas.{known_after}
use Rattle.krb_c.proofs.walked.Walked.step.Goals as goal

pub shown_at-requires : goal.shown_at-requires
shown_at-requires g c = (known_after _ _ _ _ c.first-sound.ensures.sound (sym c.in-Live.is ∙ c.stop_at.ensures)).is_live

pub invariant_of-self : goal.invariant_of-self
invariant_of-self g c = known_after _ _ _ _ c.first-sound.ensures.sound (sym c.in-Live.is ∙ c.stop_at.ensures)
