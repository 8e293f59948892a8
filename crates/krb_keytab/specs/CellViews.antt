-- The cells of an image from a place on, and what the code returns for each.
use Rattle.std.specs.Prelude.{◌≡◌, ℕ, ◌+◌, ◌≤◌, ◌^◌, List, [], ◌∷◌, length, drop, Option, Some, None}
use Rattle.krb_wire.specs.declared.format.KtFormat.{KtFormat}
use Rattle.krb_keytab.specs.declared.image.CellsEnd.{CellsEnd}
use Rattle.krb_keytab.specs.Cells.{Cell, Contents, contents, IsCell, size, Live, Free}
use Rattle.krb_keytab.specs.Store.{KeytabState}
use Rattle.krb_keytab.specs.Image.{EndsKnown}
use Rattle.krb_keytab.specs.declared.cells.KtCell.{KtCell}
use Rattle.krb_keytab.specs.declared.cells.KtCell.TheVariants as view

-- cells of a format that start at a place, and what ends them
pub record CellsFrom : Type 0 where
  pub format : KtFormat
  pub place : ℕ
  pub contents : Contents

-- all cells of a keytab
abbrev pub cells_of : KeytabState → CellsFrom
cells_of k = record { format = k.format; place = 2; contents = k.contents }

-- they are in an image, and where they end is known
pub record AreKnown (f : KtFormat) (image : List ℕ) (at : ℕ) (e : CellsEnd) : Type 0 where
  pub within : at ≤ length image
  pub small : length image ≤ 2 ^ 30
  pub ends : EndsKnown f image at e

-- if no cell begins there, no bytes are left
abbrev pub IsCellOrNothing : KtFormat → List ℕ → Type 0
IsCellOrNothing f bytes = (contents f bytes).cells ≡ [] → bytes ≡ []

-- bytes begin with a cell, and the other cells are after it
pub record IsFirst (f : KtFormat) (bytes : List ℕ) (c : Cell) : Type 0 where
  pub contents : contents f bytes ≡ record { cells = c ∷ (contents f (drop (4 + size c) bytes)).cells; end = (contents f (drop (4 + size c) bytes)).end }
  pub sound : IsCell f c
  pub within : 4 + size c ≤ length bytes

-- the first cell, and the cells after it
pub record BeginsWith (old : CellsFrom) (at : ℕ) (c : Cell) (new : CellsFrom) : Type 0 where
  pub place : at ≡ old.place
  pub cells : old.contents.cells ≡ c ∷ new.contents.cells
  pub end : old.contents.end ≡ new.contents.end
  pub next : new.place ≡ at + (4 + size c)
  pub format : new.format ≡ old.format
  pub sound : IsCell old.format c
  pub small : new.place ≤ 2 ^ 30

-- ---- as the code gives them

-- the cell, without where its bytes are in memory
abbrev pub cell_of : KtCell → Cell
cell_of (view.Live bytes) = Live bytes.now
cell_of (view.Free bytes) = Free bytes.now

-- the first cell with its place and the cells after it, or none if none is left
abbrev pub GivesCell : CellsFrom → Option (ℕ × KtCell) → CellsFrom → Type 0
GivesCell old None new = (old.contents.cells ≡ []) × (new ≡ old)
GivesCell old (Some x) new = BeginsWith old x.0 (cell_of x.1) new
