-- The handle and its parts own what a box at the same types owns.
use Rattle.krb_c.proofs.Cited.{impl, tnil, dnil, Slot, plain, Bx, ghosts, dict, []}
use Rattle.std_heap.specs.contracts.Global as Heap
use Rattle.std_heap.proofs.Global.TheLaws as heap
use Rattle.krb_c.specs.contracts.held.Held as Held
use Rattle.krb_c.proofs.held.Held.TheLaws as held
use Rattle.krb_c.specs.contracts.parts.Parts as Parts
use Rattle.krb_c.specs.contracts.handle.Handle as Handle

abbrev pub E : Bx
E = record { row = Held.the_row; laws = held.the_row_laws; al = record { row = Heap.the_row; laws = heap.the_row_laws; g = ghosts; d = dict; drops = impl [] tnil dnil } }

abbrev pub FromParts : Slot 0
FromParts = plain (λ _. Parts.the_row Held.the_row Heap.the_row ghosts)

abbrev pub FromHandle : Slot 0
FromHandle = plain (λ _. Handle.the_row)
