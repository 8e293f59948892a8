use Rattle.krb_keytab.proofs.Cited.{rules, ℕ, List, ◌+◌, ◌-◌, ◌++◌, length, replicate, arith, Puts, order_of, puts_then, Live, cell}
use Rattle.std.proofs.lemmas.List.{length-append, length-replicate}
use Rattle.krb_keytab.proofs.Cuts.{cell_len}
use Rattle.krb_keytab.proofs.Splices.{written_over}
use Rattle.krb_keytab.proofs.append.put_last.Goals as goal

pub returns : goal.returns
returns g c =
    let o = order_of c.args.form.now.format in
    let x = c.args.form.now.bytes in
    let rest = length c.args.image.now - (c.args.at + 4 + length x) in
    let zeros : List ℕ = replicate {A = ℕ} rest 0 in
    let both = puts_then c.put_form.ensures c.put_zeros.ensures in
    let puts : Puts c.new-pen.result c.put_zeros.new.self (cell o (Live x) ++ zeros) = rw c.len-need.ensures.len at both in
    let written = written_over c.args.image.now (cell o (Live x) ++ zeros) c.args.at (length c.args.image.now) c.new-pen.result c.put_zeros.new.self puts c.new-pen.ensures.bytes c.new-pen.ensures.place (omega (arith, c.requires.room, length-append (cell o (Live x)) zeros, cell_len o (Live x), length-replicate {A = ℕ} rest 0)) in
    search rules
