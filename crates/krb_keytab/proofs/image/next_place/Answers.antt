use Rattle.krb_keytab.proofs.Cited.{ℕ, ◌+◌, sym, subst, arith, IsPassed}
use Rattle.krb_keytab.proofs.EndLemmas.{passed, ends_there}
use Rattle.krb_keytab.proofs.image.next_place.Goals as goal

pub returns-in-Ok : goal.returns-in-Ok
returns-in-Ok c =
    let within = rw c.tail.ensures at c.in-Ok.ensures.within in
    let value = rw c.tail.ensures at c.in-Ok.ensures.value in
    subst (λ (n : ℕ). IsPassed c.args.format c.args.image.now c.args.at (c.args.at + (4 + n))) (sym c.size.ensures)
    (passed c.args.format c.args.image.now c.args.at c.in-Ok.length (λ i. omega (arith, c.type_inv.image i)) c.requires.within within.1 value)

pub returns-in-Err : goal.returns-in-Err
returns-in-Err c = search (arith, ends_there)
