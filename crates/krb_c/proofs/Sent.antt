-- What is behind a handle may go to another thread: its memory may be freed there.
use denote.Enum.Declared.{shape}
use Rattle.std.proofs.Crossing as heap
use Rattle.krb_keytab.specs.contracts.indexed.Indexed as Indexed
use Rattle.krb_keytab.proofs.indexed.Indexed.TheSendSync as indexed
use Rattle.krb_ccache.specs.contracts.ccache.Ccache as Ccache
use Rattle.krb_ccache.proofs.ccache.Ccache.TheSendSync as ccache
use Rattle.krb_c.proofs.walked.Walked.TheSendSync as walked
use Rattle.krb_c.specs.contracts.held.Held as Held
use Rattle.krb_c.proofs.Cited.{impl, tnil, dnil, RattleType, IsSend, EachSend, Frees, sendable, recorded_send, enum_send, ghosts, dict, []}
use Rattle.std.specs.declared.alloc.Allocator.{Ghosts}
use Rattle.std_heap.specs.contracts.Global as Global
use Rattle.wiping.specs.contracts.allocator.Wiping as Wiping
use Rattle.wiping.specs.contracts.allocator.WipingAllocator.TheImpl as wiping

-- the type of the allocator of all that is behind a handle
abbrev heap_row : RattleType
heap_row = Wiping.the_row Global.the_row

-- what it says of the right to free a block
abbrev heap_ghosts : Ghosts heap_row.Denot
heap_ghosts = wiping.ghosts Global.the_row ghosts dict (impl [] tnil dnil)

sent : IsSend heap_row
sent = search (sendable, heap.send) depth 20

freed : Frees heap_ghosts heap_ghosts.dealloc_token
freed = record { frees = λ a τ p. heap.frees.frees a.inner.heap τ p }

keytab : IsSend (Indexed.the_row heap_row heap_ghosts)
keytab = search (indexed.the_send, sent, freed)

cache : IsSend (Ccache.the_row heap_row heap_ghosts)
cache = search (ccache.the_send, sent, freed)

either : EachSend (shape Held.the_type).variants
either = ((search (walked.the_send, keytab), tt), ((search (walked.the_send, cache), tt), tt))

pub held : IsSend Held.the_row
held = search (recorded_send, enum_send (shape Held.the_type) either)
