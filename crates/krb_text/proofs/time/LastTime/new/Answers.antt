use Rattle.krb_text.proofs.Cited.{refl, day_number}
use Rattle.krb_text.proofs.time.LastTime.new.Goals as goal

pub invariant_of-result : goal.invariant_of-result
unfolding day_number
invariant_of-result c = record { spelled = refl }
