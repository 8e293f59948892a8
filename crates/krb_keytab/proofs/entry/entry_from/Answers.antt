use Rattle.std.proofs.Common.{arith}
use Rattle.krb_keytab.proofs.NewRecords.{read_fits}
use Rattle.krb_keytab.proofs.entry.entry_from.Goals as goal

pub invariant_of-result : goal.invariant_of-result
invariant_of-result c =
    read_fits c.args.format c.order-order.result c.args.bytes.now _ _ _ _ _ (λ i. omega (arith, c.type_inv.bytes i)) c.in_ok-principal.ensures c.in_ok-timestamp.ensures c.in_ok-low.ensures c.in_ok-enctype.ensures c.in_ok-key.ensures
