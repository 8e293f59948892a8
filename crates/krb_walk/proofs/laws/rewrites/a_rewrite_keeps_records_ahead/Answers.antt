use Rattle.krb_walk.proofs.Carries.{carry_same_side}
use Rattle.krb_walk.proofs.laws.rewrites.a_rewrite_keeps_records_ahead.Goals as goal

pub returns : goal.returns
returns c = λ r names old new d p q sound h was is. let side = carry_same_side r old new names d p q sound h was is in (side.on, side.back)
