use Rattle.krb_driver.proofs.Cited.{arith, ℕ, List, ◌<◌, ap, length, length-append, take, flat_map, quoted_byte}
use Rattle.std.proofs.lemmas.List.Folds.{length-flat_map-take}
use Rattle.krb_driver.proofs.reporting.operand.append_quoted.Goals as goal

-- the bytes up to this one are too many already
pub returns-in_err-append : goal.returns-in_err-append
returns-in_err-append c =
    let name = c.args.name.now in
    let i = c.bytes.byte-index in
    let below : i < length name = omega arith in
    let here = ap (λ (bytes : List ℕ). length bytes) c.quoted_byte.ensures in
    rw c.from_residual.ensures (omega (arith, ap length c.bytes.invariant, length-append c.args.operand.now.items (flat_map quoted_byte (take i name)), length-flat_map-take quoted_byte name i 0 below, here, c.in_err-append.ensures {u = tt}))
