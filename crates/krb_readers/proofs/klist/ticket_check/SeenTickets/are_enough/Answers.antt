use Rattle.krb_readers.proofs.Cited.{◌∙◌, ℕ, ap, sym, nat_lt}
use Rattle.krb_readers.proofs.Latest.{of_last}
use Rattle.krb_readers.proofs.klist.ticket_check.SeenTickets.are_enough.Goals as goal

pub returns-in-Some : goal.returns-in-Some
returns-in-Some c = λ k seen. ap (λ (end : ℕ). nat_lt c.args.time end) c.from.ensures ∙ of_last c.args.time _ k (sym c.in-Some.is ∙ c.last_end.ensures k seen)

pub returns-in-None : goal.returns-in-None
returns-in-None c = λ k seen. of_last c.args.time _ k (sym c.in-None.is ∙ c.last_end.ensures k seen)
