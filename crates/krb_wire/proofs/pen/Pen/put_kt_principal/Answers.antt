use Rattle.krb_wire.proofs.NamesCompared.{lengths_of}
use Rattle.krb_wire.proofs.PenLemmas.{puts_then}
use Rattle.krb_wire.proofs.pen.Pen.put_kt_principal.Goals as goal

pub put_components-requires-clause-fits : goal.put_components-requires-clause-fits
put_components-requires-clause-fits g c = (lengths_of c.args.format (g.N.Name.parts c.args.name.now) c.requires.spelled).components

pub returns : goal.returns
returns g c =
    let puts = puts_then c.put_u16.ensures (puts_then c.put_data16.ensures (puts_then c.put_components.ensures c.put_name_type.ensures)) in
    rw (c.order-order.ensures, c.in-Some.ensures.value, c.count.ensures, c.realm.ensures, c.name_type.ensures) at puts
