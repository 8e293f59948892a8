use Rattle.krb_wire.proofs.NamesCompared.{long_lengths_of}
use Rattle.krb_wire.proofs.PenLemmas.{puts_then}
use Rattle.krb_wire.proofs.pen.Pen.put_cc_principal.Goals as goal

pub put_components-requires-clause-fits : goal.put_components-requires-clause-fits
put_components-requires-clause-fits g c = (long_lengths_of (g.N.Name.parts c.args.name.now) c.requires.spelled).components

pub returns : goal.returns
returns g c =
    let puts = puts_then c.put_u32.ensures (puts_then c.put_u32-2.ensures (puts_then c.put_data32.ensures c.put_components.ensures)) in
    rw (c.name_type.ensures, c.count.ensures, c.realm.ensures) at puts
