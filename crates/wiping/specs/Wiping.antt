-- The allocator below.
use Rattle.wiping.specs.declared.allocator.Wiping.{Wiping}

abbrev pub inner_of : {B : Type 0} → Wiping B → B
inner_of wiping = wiping.inner.heap
