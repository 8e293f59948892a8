use Rattle.krb_wire.proofs.Cited.{arith, cc_principal_at}
use Rattle.krb_wire.proofs.Places.{past, ends_at}
use Rattle.krb_wire.proofs.Principals.{no_cc_principal, cc_principal_field}
use Rattle.krb_wire.proofs.view.cc_principal_from.Goals as goal

pub returns-then-at-bytes : goal.returns-then-at-bytes
returns-then-at-bytes c = past cc_principal_at c.args.bytes.now c.args.at no_cc_principal c.if-at-bytes.true

pub overflow_sub-result : goal.overflow_sub-result
overflow_sub-result c = (ends_at cc_principal_field c.args.bytes.now c.args.at c.tail-rest.result.now c.in_ok-name.name c.in_ok-name.after.now (λ i. omega (arith, c.type_inv.bytes i)) c.if-at-bytes.false c.tail-rest.ensures c.in_ok-name.ensures).0

pub returns : goal.returns
returns c =
    let h = ends_at cc_principal_field c.args.bytes.now c.args.at c.tail-rest.result.now c.in_ok-name.name c.in_ok-name.after.now (λ i. omega (arith, c.type_inv.bytes i)) c.if-at-bytes.false c.tail-rest.ensures c.in_ok-name.ensures in
    (h.1, omega arith)
