-- A cleared block.
use Rattle.std.specs.Prelude.{◌≡◌, ℕ}
use lib.ListN.{replicate}
use mir.Syntax.{Ty}
use base.Fraction.{full_share}
use base.Fml.{Fml, fsep, fwand}
use prog.Memory.{size, capped}
use denote.Array.{Array}
use denote.Builtin.{u8}
use denote.RawPtr.{Ptr, lies_at, room_for}

-- n is the `size_of` ty, capped at `usize::MAX`
abbrev pub HasSize : Ty → ℕ → Type 0
HasSize ty n = capped (size ty) ≡ n

-- there are n bytes at p, and each is 0
abbrev pub zeros : ℕ → Ptr → Fml
zeros n p = lies_at (Array u8 n) full_share p (replicate n 0)

-- the first n bytes of the room for a ty at p are 0
abbrev pub cleared : Ty → ℕ → Ptr → Fml
cleared ty n p = fsep (zeros n p) (fwand (zeros n p) (room_for ty p))

-- the first n bytes of the room at p are 0, and the block may be freed
abbrev pub cleared_block : (Ty → Ptr → Fml) → Ty → ℕ → Ptr → Fml
cleared_block holds ty n p = fsep (cleared ty n p) (holds ty p)
