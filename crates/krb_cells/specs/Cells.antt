-- A store of the cells in bytes.
use Rattle.std.specs.Prelude.{◌≡◌, ℕ, ◌+◌, ◌≤◌, ◌^◌, List, [], ◌∷◌, length, Option, Some, None, drop, map, option_copied}
use Rattle.krb_walk.specs.Store.{Cell, Store, live_bytes, stop_at}
use Rattle.krb_cells.specs.declared.cells.CellView.{CellView}
use Rattle.krb_cells.specs.Contents.{Format, contents}

-- ---- the cells of bytes, read from the front

-- a cell as a store sees it, apart from where its bytes are in memory
abbrev pub cell_of : CellView → Cell
cell_of c = record { width = c.width; live = option_copied c.live }

-- bytes that are exactly these cells: each takes up at least 4 bytes, and the bytes after it are the others
abbrev pub HasCells : (List ℕ → List Cell) → List ℕ → List Cell → Type 0
HasCells cells bytes [] = bytes ≡ []
HasCells cells bytes (c ∷ cs) = (4 ≤ c.width) × (c.width ≤ length bytes) × (cells (drop c.width bytes) ≡ cs) × HasCells cells (drop c.width bytes) cs

-- bytes that are exactly their cells
abbrev pub AreCells : (List ℕ → List Cell) → List ℕ → Type 0
AreCells cells bytes = HasCells cells bytes (cells bytes)

-- the cells that bytes have in a format, as a store sees them
abbrev pub seen_in : {C E : Type 0} → Format C E → (C → Cell) → List ℕ → List Cell
seen_in f seen bytes = map seen (contents f bytes).cells

-- ---- a store of the cells in bytes

-- bytes that are exactly their cells, whose first begins at that place
pub record HoldsCells (cells : List ℕ → List Cell) (place : ℕ) (bytes : List ℕ) : Type 0 where
  pub are : AreCells cells bytes
  pub small : place + length bytes ≤ 2 ^ 30

-- the first cell with its place, and the cells after it
pub record BeginsWith (old : Store) (at : ℕ) (c : Cell) (new : Store) : Type 0 where
  pub place : at ≡ old.first
  pub cells : old.cells ≡ c ∷ new.cells
  pub next : new.first ≡ at + c.width
  pub fault : new.fault ≡ old.fault
  pub small : new.first ≤ 2 ^ 30

-- the first cell with its place, or `None` if no cell is left
abbrev pub GivesCell : Store → Option (ℕ × CellView) → Store → Type 0
GivesCell old None new = (old.cells ≡ []) × (new ≡ old)
GivesCell old (Some x) new = BeginsWith old x.0 (cell_of x.1) new

-- the cells from a place on: look-ups at that place or after it give the same as in all cells
pub record IsFrom (all : Store) (place : ℕ) (rest : Store) : Type 0 where
  pub first : rest.first ≡ place
  pub stop : stop_at rest place ≡ stop_at all place
  pub bytes : (p : ℕ) → place ≤ p → live_bytes rest p ≡ live_bytes all p
