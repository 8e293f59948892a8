use Rattle.krb_keytab.proofs.Cited.{subst, Puts, puts_then, EntryParts, written_form, arith, nat_tests}
use Rattle.krb_keytab.proofs.form.put_entry.Goals as goal

pub put_kt_principal-requires-clause-spelled : goal.put_kt_principal-requires-clause-spelled
put_kt_principal-requires-clause-spelled g c = grind (arith, nat_tests)

pub returns : goal.returns
returns g c =
    let puts = puts_then (puts_then c.put_kt_principal.ensures (puts_then c.put_u32.ensures (puts_then c.put_u8.ensures (puts_then c.put_u16.ensures c.put_data16.ensures)))) c.put_u32-2.ensures in
    subst (λ (e : EntryParts). Puts c.args.pen.now c.put_u32-2.new.self (written_form c.args.format e)) c.entry.view_is (rw c.order-order.ensures at puts)
