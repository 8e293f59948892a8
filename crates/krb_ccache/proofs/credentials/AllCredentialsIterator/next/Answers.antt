use Rattle.krb_ccache.proofs.Cited.{arith}
use Rattle.krb_ccache.proofs.CellLemmas.{read_left, read_one, read_none, begins, fewer_left}
use Rattle.krb_ccache.proofs.credentials.AllCredentialsIterator.next.Goals as goal

pub returns-in_err-credential-clause-steps : goal.returns-in_err-credential-clause-steps
returns-in_err-credential-clause-steps c = search (arith, read_none)

pub overflow_sub-self : goal.overflow_sub-self
overflow_sub-self c = search (arith, read_left)

pub invariant_of-self : goal.invariant_of-self
invariant_of-self c = search (arith, read_left)

pub returns-clause-steps : goal.returns-clause-steps
returns-clause-steps c =
    begins c.self.inside.version c.self.inside.place c.self.inside.bytes.now c.in_ok-credential.credential c.in_ok-credential.after.now c.args.self.now
    (read_one c.self.inside.version c.self.inside.bytes.now c.in_ok-credential.credential c.in_ok-credential.after.now c.bytes_fit.ensures c.in_ok-credential.ensures) c.self.invariant c.self.view_is

pub returns-clause-goes : goal.returns-clause-goes
returns-clause-goes c =
    let less = fewer_left _ _ c.self.inside.place c.in_ok-credential.credential (returns-clause-steps c) in
    record { on = λ f. (tt, tt, less); keeps = tt; rests = λ f. tt }
