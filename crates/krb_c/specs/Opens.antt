-- What the calls return that are given an empty handle.
use Rattle.std.specs.Prelude.{◌≡◌, ◌⊎◌, ℕ, Option, Some, None, Result, Ok, Err, ◌&&◌, ◌==◌, nat_le, if◌then◌else◌}
use Rattle.krb_c.specs.declared.handle.Handle.{Handle}

-- a call returns this status, and the handle stays empty
abbrev pub OpensNone : ℕ → ℕ → Handle → Type 0
OpensNone why status handle = (status ≡ why) × (handle.held ≡ None)

-- a call returns 0, and C then holds the result; or it is refused
abbrev pub OpensOr : {S E : Type 0} → (E → ℕ) → Result S E → ℕ → Option S → Handle → Type 0
OpensOr of (Ok given) status held handle = (status ≡ 0) × (held ≡ Some given)
OpensOr of (Err why) status held handle = OpensNone (of why) status handle

-- a call returns 0, and C then holds the result; or it is refused, or out of memory
abbrev pub Opens : {S E : Type 0} → (E → ℕ) → Result S E → ℕ → Option S → Handle → Type 0
Opens of given status held handle = OpensOr of given status held handle ⊎ OpensNone 1 status handle

-- ---- the limit on the length of an image

-- the limit that C passes, if it is between the least limit and the greatest: 0 means the usual one
abbrev pub limit_of : ℕ → Option ℕ
limit_of n = if n == 0 then Some 16777216 else if nat_le 2 n && nat_le n 1073741824 then Some n else None
