-- What is known of an image once it was read: each cell, and what ends them.
use Rattle.std.specs.Prelude.{ℕ, ◌+◌, ◌<◌, ◌≤◌, ◌≡◌, List, [], length, take, drop, Option, Some, None, Result, Ok, Err}
use Rattle.krb_wire.specs.declared.format.KtFormat.{KtFormat}
use Rattle.krb_walk.specs.declared.fault.FaultKind.{FaultKind}
use Rattle.krb_keytab.specs.declared.length.Length.{Length}
use Rattle.krb_keytab.specs.declared.image.Ending.{Ending}
use Rattle.krb_cells.specs.Contents.{NextCell, More, NoMore}
use Rattle.krb_keytab.specs.Cells.{Cell, End, Bare, Mark, Damaged, cell_in, contents, Contents, size_of}
use Rattle.krb_keytab.specs.Store.{end_place}
use Rattle.krb_keytab.specs.declared.image.CellsEnd.{CellsEnd}
use Rattle.krb_keytab.specs.declared.image.Ending.TheVariants as ending

-- the kind of the fault, if there is one
abbrev pub ending_kind : Ending → Option FaultKind
ending_kind ending.Bare = None
ending_kind ending.Mark = None
ending_kind (ending.Damaged kind) = Some kind

-- the bytes as an end, by what ends the cells
abbrev pub ends : List ℕ → Ending → End
ends bytes ending.Bare = Bare
ends bytes ending.Mark = Mark (drop 4 bytes)
ends bytes (ending.Damaged kind) = Damaged kind bytes

-- a cell by its length, or an end
abbrev pub as_next : List ℕ → Result Length Ending → NextCell Cell End
as_next bytes (Ok l) = More (cell_in l (take (size_of l) (drop 4 bytes))) (drop (size_of l) (drop 4 bytes))
as_next bytes (Err e) = NoMore (ends bytes e)

-- the cell ends within the bytes
abbrev pub EndsWithin : List ℕ → Result Length Ending → Type 0
EndsWithin bytes (Ok l) = (0 < size_of l) × (4 + size_of l ≤ length bytes)
EndsWithin bytes (Err e) = Unit {0}

-- no cell begins at a place: the cells end there, with this ending
abbrev pub EndsThere : KtFormat → List ℕ → ℕ → Ending → Type 0
EndsThere f image at e = contents f (drop at image) ≡ record { cells = []; end = ends (drop at image) e }

-- exactly one cell is between two places
pub record IsPassed (f : KtFormat) (image : List ℕ) (at next : ℕ) : Type 0 where
  pub ahead : at < next
  pub within : next ≤ length image
  pub place : end_place at (contents f (drop at image)).cells ≡ end_place next (contents f (drop next image)).cells
  pub count : length (contents f (drop at image)).cells ≡ 1 + length (contents f (drop next image)).cells
  pub end : (contents f (drop at image)).end ≡ (contents f (drop next image)).end

-- the place after the cell at a place, or what ends the cells there
abbrev pub GivesPlace : KtFormat → List ℕ → ℕ → Result ℕ Ending → Type 0
GivesPlace f image at (Ok next) = IsPassed f image at next
GivesPlace f image at (Err e) = EndsThere f image at e

-- ---- all cells

-- the cells from a place on end at the place of `e`, with its ending
pub record EndsKnown (f : KtFormat) (image : List ℕ) (at : ℕ) (e : CellsEnd) : Type 0 where
  pub place : end_place at (contents f (drop at image)).cells ≡ e.place
  pub within : e.place ≤ length image
  pub same : (contents f (drop at image)).end ≡ (contents f (drop e.place image)).end
  pub ending : EndsThere f image e.place e.ending

-- all cells end there, with its ending
abbrev pub IsKnownEnd : KtFormat → List ℕ → CellsEnd → Type 0
IsKnownEnd f image e = EndsKnown f image 2 e

-- an image after a change: its first two bytes are as before, and it holds these contents, whose end is known
pub record IsChanged (f : KtFormat) (old new : List ℕ) (k : Contents) (e : CellsEnd) : Type 0 where
  pub head : take 2 new ≡ take 2 old
  pub contents : contents f (drop 2 new) ≡ k
  pub known : IsKnownEnd f new e

-- how many bytes an end mark takes after an appended record
abbrev pub mark_len : Ending → ℕ
mark_len ending.Bare = 0
mark_len ending.Mark = 4
mark_len (ending.Damaged kind) = 0

-- the length of an image with a record of this many bytes after its cells
abbrev pub len_with : CellsEnd → ℕ → ℕ
len_with e n = e.place + 4 + n + mark_len e.ending
