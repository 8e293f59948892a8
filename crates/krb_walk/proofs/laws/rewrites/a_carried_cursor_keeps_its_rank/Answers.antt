use Rattle.krb_walk.proofs.Carries.{carry_keeps_rank}
use Rattle.krb_walk.proofs.laws.rewrites.a_carried_cursor_keeps_its_rank.Goals as goal

pub returns : goal.returns
returns c = λ old new p h. carry_keeps_rank old new p h
