use Rattle.krb_wire.proofs.PenLemmas.{puts_then}
use Rattle.krb_keytab.proofs.put.put_form.Goals as goal

pub returns : goal.returns
returns g c =
    let puts = puts_then c.put_u32.ensures c.put.ensures in
    rw (c.order-order.ensures, c.format.ensures, c.field.ensures, c.len.ensures.len) at puts
