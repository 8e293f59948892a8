use Rattle.krb_wire.proofs.Cited.{arith, data_at}
use Rattle.krb_wire.proofs.Places.{past, ends_at}
use Rattle.krb_wire.proofs.Principals.{no_data, data_field}
use Rattle.krb_wire.proofs.counted.data_from.Goals as goal

pub returns-then-at-bytes : goal.returns-then-at-bytes
returns-then-at-bytes c = past (data_at c.args.lengths) c.args.bytes.now c.args.at (no_data c.args.lengths) c.if-at-bytes.true

pub overflow_sub-result : goal.overflow_sub-result
overflow_sub-result c = (ends_at (data_field c.args.lengths) c.args.bytes.now c.args.at c.tail-rest.result.now c.in_ok-text.text.now c.in_ok-text.after.now (λ i. omega (arith, c.type_inv.bytes i)) c.if-at-bytes.false c.tail-rest.ensures c.in_ok-text.ensures).0

pub returns : goal.returns
returns c =
    let h = ends_at (data_field c.args.lengths) c.args.bytes.now c.args.at c.tail-rest.result.now c.in_ok-text.text.now c.in_ok-text.after.now (λ i. omega (arith, c.type_inv.bytes i)) c.if-at-bytes.false c.tail-rest.ensures c.in_ok-text.ensures in
    (h.1, omega arith)
