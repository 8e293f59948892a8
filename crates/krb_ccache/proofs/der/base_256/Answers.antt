use Rattle.krb_ccache.proofs.Cited.{arith, ℕ, ◌+◌, ◌*◌, ◌<◌, ◌≤◌, ◌^◌}
use Rattle.std.proofs.Math.Nat.{pow-le-pow_right}
use Rattle.krb_ccache.proofs.der.base_256.Goals.{then-is_complement, else-is_complement}
use Rattle.krb_ccache.proofs.der.base_256.Goals as goal

-- eight digits at most fit 64 bits
room_for_digit : (n i len : ℕ) → n < 256 ^ i → i < len → len ≤ 8 → n * 256 + 255 < 2 ^ 64
room_for_digit n i len fits more few = omega (arith, fits, pow-le-pow_right {n = 256} (omega arith) {i = i} {j = 7} (omega arith))

pub overflow_mul-number : goal.overflow_mul-number
overflow_mul-number c = omega (arith, room_for_digit _ _ _ c.loop-byte.invariant.1 c.loop-byte-test.true c.requires)

pub overflow_add-number : goal.overflow_add-number
overflow_add-number c =
    let room = room_for_digit _ _ _ c.loop-byte.invariant.1 c.loop-byte-test.true c.requires in
    elim c.if-is_complement.branch [ then-is_complement w ↦ omega (arith, room, w.digit-is) | else-is_complement w ↦ omega (arith, room, w.digit-is, c.type_inv.bytes c.loop-byte.byte-index) ]
