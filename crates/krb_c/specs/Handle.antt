-- What the handle owns: if something is behind it, the same as a `Box<Held>`.
use base.Fml.{Fml, feq}
use base.Stored.{Coded}
use denote.RawPtr.{Ptr, null_ptr}
use Rattle.std.specs.Prelude.{Option, Some, None}
use Rattle.std.specs.Coded.{coded_option}
use Rattle.std.specs.Box.Ownership.{box_owns}
use Rattle.std.specs.Global.{Global}
use Rattle.std_heap.specs.contracts.GlobalAllocator.TheImpl.{ghosts}
use Rattle.krb_c.specs.contracts.held.Held.{the_row}

-- nothing if it is empty, and then its pointer is null; else a box at its pointer
abbrev pub handle_owns : Global → Ptr → Option the_row.Denot → Fml
handle_owns alloc ptr None = feq Ptr ptr null_ptr
handle_owns alloc ptr (Some held) = box_owns (ghosts.dealloc_token alloc) the_row ptr held

-- how the type of what is behind it is coded
abbrev pub held_coded : Coded (Option the_row.Denot)
held_coded = coded_option the_row.coded
