use Rattle.krb_keytab.proofs.Cited.{rules, ◌+◌, arith, Puts, order_of, puts_then, Cell, Live, cell, with_zeros}
use Rattle.krb_keytab.proofs.Cuts.{cell_len}
use Rattle.krb_keytab.proofs.ImageChanges.{padded_len}
use Rattle.krb_keytab.proofs.Splices.{written_over}
use Rattle.krb_keytab.proofs.put.put_record.Goals as goal

pub returns : goal.returns
returns g c =
    let o = order_of c.args.form.now.format in
    let live : Cell = Live (with_zeros c.args.form.now.bytes c.args.size) in
    let size = padded_len c.args.form.now.bytes c.args.size c.requires.fits in
    let all = puts_then c.put_u32.ensures (puts_then c.put.ensures c.put_zeros.ensures) in
    let puts : Puts c.new-pen.result c.put_zeros.new.self (cell o live) = rw size (rw (c.order-order.ensures, c.format.ensures, c.field.ensures, c.len.ensures.len) at all) in
    let written = written_over c.args.image.now (cell o live) c.args.at (c.args.at + 4 + c.args.size) c.new-pen.result c.put_zeros.new.self puts c.new-pen.ensures.bytes c.new-pen.ensures.place (omega (arith, cell_len o live, size)) in
    search rules
