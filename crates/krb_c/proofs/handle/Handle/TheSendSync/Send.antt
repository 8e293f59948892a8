-- A handle may go to another thread: what it owns is a keytab or a cache in the heap, or nothing.
use mir.Raw.{raw}
use base.Shift.{Keyless}
use denote.Memory.{lone}
use Rattle.krb_c.proofs.Cited.{Ptr, Option, Some, None, exits_of, shape, fields, to, IsSend, AllSend, owning_send, struct_send, sendable, Global}
use Rattle.std.proofs.Crossing as heap
use Rattle.std_alloc.proofs.SendSync.{quiet, lies}
use Rattle.std_heap.proofs.Global.TheSendSync as handle
use Rattle.krb_c.specs.Handle.{handle_owns}
use Rattle.krb_c.specs.contracts.held.Held as Held
use Rattle.krb_c.proofs.Sent.{held}
use Rattle.krb_c.specs.contracts.handle.Handle.{the_row, the_type}

keyless : (a : Global) (p : Ptr) (h : Option Held.the_row.Denot) → Keyless (handle_owns a p h)
keyless a p None = tt
keyless a p (Some x) = (lies Held.the_row held p x, heap.frees.frees a (raw (lone Held.the_row.mir)) p)

pub send : IsSend the_row
send =
    let all : AllSend (fields the_type) = (search sendable, (handle.the_field_send, tt)) in
    owning_send the_type all (λ d. keyless d.alloc d.ptr d.held)
    (λ k. quiet (to the_type) (exits_of k (fields the_type)) ((struct_send (shape the_type) all).leaving k))
