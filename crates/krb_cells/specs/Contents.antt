-- Cells that are spelled one after the other and read from the front: what all formats share.
use Rattle.std.specs.Prelude.{◌≡◌, ℕ, zero, suc, ◌<◌, List, [], ◌∷◌, ◌++◌, length, Option, Some, None}
use Rattle.std.specs.List.{flat_map, AllByRecursion}

-- what bytes begin with: one more cell and the bytes after it, or what ends the cells
pub data NextCell (C E : Type 0) : Type 0 where
  More : C → List ℕ → NextCell C E
  NoMore : E → NextCell C E

-- cells one after the other, and what ends them
pub record Contents (C E : Type 0) : Type 0 where
  pub cells : List C
  pub end : E

-- a format of cells: what bytes begin with, how a cell and an end are spelled, and the end of none
pub record Format (C E : Type 0) : Type 0 where
  pub next : List ℕ → NextCell C E
  pub cell : C → List ℕ
  pub end_bytes : E → List ℕ
  pub none : E

-- the bytes that spell cells and their end
abbrev pub spelling : {C E : Type 0} → Format C E → Contents C E → List ℕ
spelling f k = flat_map f.cell k.cells ++ f.end_bytes k.end

-- the cells of bytes, by what they begin with and by the cells of the rest
abbrev pub on_next : {C E : Type 0} → (List ℕ → Contents C E) → NextCell C E → Contents C E
on_next others (More c rest) = record { cells = c ∷ (others rest).cells; end = (others rest).end }
on_next others (NoMore e) = record { cells = []; end = e }

-- the cells of bytes, at most n of them
unfoldable pub first_cells : {C E : Type 0} → Format C E → ℕ → List ℕ → Contents C E
first_cells f zero bytes = record { cells = []; end = f.none }
first_cells f (suc n) bytes = on_next (first_cells f n) (f.next bytes)

-- the cells of bytes and their end: read one after the other, each takes at least a byte
unfoldable pub contents : {C E : Type 0} → Format C E → List ℕ → Contents C E
contents f bytes = first_cells f (suc (length bytes)) bytes

-- a cell that is read back wherever it is spelled, and whose spelling is not empty
pub record IsCell {C E : Type 0} (f : Format C E) (c : C) : Type 0 where
  pub read : (rest : List ℕ) → f.next (f.cell c ++ rest) ≡ More c rest
  pub some : 0 < length (f.cell c)

-- an end that is read back as an end, not as a further cell
abbrev pub IsEnd : {C E : Type 0} → Format C E → E → Type 0
IsEnd f e = f.next (f.end_bytes e) ≡ NoMore e

-- the cells and the end are sound
pub record IsSound {C E : Type 0} (f : Format C E) (k : Contents C E) : Type 0 where
  pub cells : AllByRecursion (IsCell f) k.cells
  pub end : IsEnd f k.end

-- sound contents, and the bytes that spell them
pub record IsSpelled {C E : Type 0} (f : Format C E) (bytes : List ℕ) (k : Contents C E) : Type 0 where
  pub parts : bytes ≡ spelling f k
  pub sound : IsSound f k

-- what bytes begin with, by the result of reading a cell
abbrev pub next_by : {C : Type 0} → List ℕ → Option (C × List ℕ) → NextCell C (List ℕ)
next_by bytes None = NoMore bytes
next_by bytes (Some x) = More x.0 x.1

-- the format of cells without lengths: `read` reads each, and they end at bytes that are none
abbrev pub unframed : {C : Type 0} → (List ℕ → Option (C × List ℕ)) → (C → List ℕ) → Format C (List ℕ)
unframed read spell = record { next = λ bytes. next_by bytes (read bytes); cell = spell; end_bytes = λ rest. rest; none = [] }
