use Rattle.krb_keytab.proofs.AfterChanges.{added_reads}
use Rattle.krb_c.proofs.keytab.changes.add.Goals as goal

pub returns-clause-reads : goal.returns-clause-reads
returns-clause-reads c = λ done.
    let read = added_reads c.args.held.now.state _ (c.put.new.place, c.put.new.self.state) (rw c.fields.ensures at c.numbers_fit.ensures) (c.put.ensures.done done) in
    let key = c.in-Ok-from_slice.ensures.items in
    rw c.in-Ok.ensures.ok cc
