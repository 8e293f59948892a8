use Rattle.krb_keytab.proofs.Cited.{arith}
use Rattle.krb_keytab.proofs.LiveLemmas.{live_after_all, live_elsewhere, live_free, live_number}
use Rattle.krb_keytab.proofs.indexed.Indexed.live_number.Goals as goal

pub returns-then-number-count-clause-none : goal.returns-then-number-count-clause-none
returns-then-number-count-clause-none g c = live_after_all c.args.self.now.state c.args.place c.rank-number.result c.rank-number.ensures (omega arith)

pub returns-then-slot-place-clause-none : goal.returns-then-slot-place-clause-none
returns-then-slot-place-clause-none g c = search (arith, live_elsewhere)

pub returns-then-is_free-clause-none : goal.returns-then-is_free-clause-none
returns-then-is_free-clause-none g c = search (arith, live_free)

pub returns-clause-some : goal.returns-clause-some
returns-clause-some g c = search (arith, live_number)
