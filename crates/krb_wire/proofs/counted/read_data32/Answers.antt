use Rattle.std.proofs.Common.{arith}
use Rattle.krb_wire.proofs.Places.{found_at, only_at}
use Rattle.krb_wire.proofs.Principals.{data32_field}
use Rattle.krb_wire.proofs.counted.read_data32.Goals as goal

pub returns-clause-found : goal.returns-clause-found
returns-clause-found c = found_at (data32_field c.args.order) (λ v. v.now) c.args.bytes.now c.args.at c.data_from.result (λ i. omega (arith, c.type_inv.bytes i)) c.data_from.ensures

pub returns-clause-only : goal.returns-clause-only
returns-clause-only c = only_at (data32_field c.args.order) (λ v. v.now) c.args.bytes.now c.args.at c.data_from.result c.data_from.ensures
