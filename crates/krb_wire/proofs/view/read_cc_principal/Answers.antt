use Rattle.std.proofs.Common.{arith}
use Rattle.krb_wire.proofs.Places.{found_at, only_at}
use Rattle.krb_wire.proofs.Principals.{cc_principal_field}
use Rattle.krb_wire.proofs.view.read_cc_principal.Goals as goal

pub returns-clause-found : goal.returns-clause-found
returns-clause-found c = found_at cc_principal_field (λ v. v) c.args.bytes.now c.args.at c.cc_principal_from.result (λ i. omega (arith, c.type_inv.bytes i)) c.cc_principal_from.ensures

pub returns-clause-only : goal.returns-clause-only
returns-clause-only c = only_at cc_principal_field (λ v. v) c.args.bytes.now c.args.at c.cc_principal_from.result c.cc_principal_from.ensures
