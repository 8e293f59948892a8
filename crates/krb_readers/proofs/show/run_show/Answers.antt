use Rattle.krb_readers.proofs.show.run_show.Goals as goal

pub returns-in-Some : goal.returns-in-Some
returns-in-Some g c = rw c.in-Some.is (record { printed = c.run_over.result.state; over = c.run_over.ensures })
