use Rattle.krb_keytab.proofs.Cited.{rules, ℕ, ◌+◌, replicate, arith, length-replicate, Puts, order_of, puts_then, Cell, Free, cell}
use Rattle.krb_keytab.proofs.Cuts.{cell_len}
use Rattle.krb_keytab.proofs.Splices.{written_over}
use Rattle.krb_keytab.proofs.put.put_hole.Goals as goal

pub returns : goal.returns
returns c =
    let o = order_of c.args.format in
    let hole : Cell = Free (replicate {A = ℕ} c.args.size 0) in
    let size = length-replicate {A = ℕ} c.args.size 0 in
    let both = puts_then c.put_u32.ensures c.put_zeros.ensures in
    let puts : Puts c.new-pen.result c.put_zeros.new.self (cell o hole) = rw size (rw (c.order.ensures, c.field.ensures) at both) in
    let written = written_over c.args.image.now (cell o hole) c.args.at (c.args.at + 4 + c.args.size) c.new-pen.result c.put_zeros.new.self puts c.new-pen.ensures.bytes c.new-pen.ensures.place (omega (arith, cell_len o hole, size)) in
    search rules
