use Rattle.krb_text.proofs.Cited.{arith, to_z_pos}
use Rattle.krb_text.proofs.Numbering.{same_day}
use Rattle.krb_text.proofs.time.date_of.Goals as goal

pub returns-clause-month : goal.returns-clause-month
returns-clause-month c = search (arith, to_z_pos, same_day)

pub returns-clause-day : goal.returns-clause-day
returns-clause-day c = search (arith, to_z_pos, same_day)
