-- A store: adjacent cells, and perhaps a fault after the last of them.
use Rattle.std.specs.Prelude.{◌≡◌, ℕ, ◌+◌, ◌<◌, Bool, true, ◌&&◌, ◌||◌, ◌==◌, nat_le, List, [], ◌∷◌, map, find, Option, Some, None, is_some}
use Rattle.std.specs.List.{AllByRecursion, filter_map}
use Rattle.std.specs.Option.{option_map}
use Rattle.krb_walk.specs.declared.fault.FaultKind.{FaultKind}
use Rattle.krb_walk.specs.declared.fault.Fault.{Fault}
use Rattle.krb_walk.specs.declared.stop.Stop.{Stop}
use Rattle.krb_walk.specs.declared.stop.Stop.TheVariants.{Live, End, Fault as AtFault}

-- a cell of a store: how many places it takes, and its bytes if it is live; a hole has none
pub record Cell : Type 0 where
  pub width : ℕ
  pub live : Option (List ℕ)

-- a keytab or a cache as cells: the place of the first, the cells, and the kind of the fault after the last, if the file is damaged
pub record Store : Type 0 where
  pub first : ℕ
  pub cells : List Cell
  pub fault : Option FaultKind

-- a cell of a store with its place
pub record Standing : Type 0 where
  pub place : ℕ
  pub cell : Cell

-- cells with their places, if the first is at the place `at`
abbrev pub standing : ℕ → List Cell → List Standing
standing at [] = []
standing at (c ∷ cs) = record { place = at; cell = c } ∷ standing (at + c.width) cs

-- the places of a store's cells, live or free, in order
abbrev pub places : Store → List ℕ
places s = map (λ x. x.place) (standing s.first s.cells)

-- the place after the last of cells, if the first is at the place `at`
abbrev pub end_from : ℕ → List Cell → ℕ
end_from at [] = at
end_from at (c ∷ cs) = end_from (at + c.width) cs

-- the place after a store's last cell
abbrev pub end_of : Store → ℕ
end_of s = end_from s.first s.cells

-- a number is the place of one of the cells, if the first is at the place `at`, or the place after the last
abbrev pub is_place_from : ℕ → List Cell → ℕ → Bool
is_place_from at [] p = at == p
is_place_from at (c ∷ cs) p = (at == p) || is_place_from (at + c.width) cs p

-- a number is the place of a cell of a store, live or free, or the place after the last
abbrev pub is_place : Store → ℕ → Bool
is_place s p = is_place_from s.first s.cells p

-- a number is a place in a store
abbrev pub IsPlace : Store → ℕ → Type 0
IsPlace s p = is_place s p ≡ true

-- the cell of a store at a place
abbrev pub cell_at : Store → ℕ → Option Standing
cell_at s p = find (λ x. x.place == p) (standing s.first s.cells)

-- the size of the cell at a place
abbrev pub size_at : Store → ℕ → Option ℕ
size_at s p = option_map (λ x. x.cell.width) (cell_at s p)

-- a record of a store, which is a live cell: its place, the place after it, and its bytes
pub record Record : Type 0 where
  pub place : ℕ
  pub next : ℕ
  pub bytes : List ℕ

-- the record of a cell with its bytes
abbrev pub record_with : Standing → Option (List ℕ) → Option Record
record_with x None = None
record_with x (Some bytes) = Some (record { place = x.place; next = x.place + x.cell.width; bytes = bytes })

-- the record of a cell, if the cell is live
abbrev pub record_of : Standing → Option Record
record_of x = record_with x x.cell.live

-- the records of a store, in file order
abbrev pub records : Store → List Record
records s = filter_map record_of (standing s.first s.cells)

-- the record of a cell, if there is a cell and it is live
abbrev pub record_of_some : Option Standing → Option Record
record_of_some None = None
record_of_some (Some x) = record_of x

-- the record of a store at a place, if one begins there
abbrev pub live_at : Store → ℕ → Option Record
live_at s p = record_of_some (cell_at s p)

-- the bytes of a record, if there is one
abbrev pub bytes_of_some : Option Record → Option (List ℕ)
bytes_of_some None = None
bytes_of_some (Some r) = Some r.bytes

-- the bytes of the record of a store at a place, if one begins there
abbrev pub live_bytes : Store → ℕ → Option (List ℕ)
live_bytes s p = bytes_of_some (live_at s p)

-- the first record of a store at or after a place
abbrev pub next_live : Store → ℕ → Option Record
next_live s p = record_of_some (find (λ x. nat_le p x.place && is_some x.cell.live) (standing s.first s.cells))

-- the stop if there is no record
abbrev pub end_stop : ℕ → Option FaultKind → Stop
end_stop end None = End end
end_stop end (Some kind) = AtFault (record { place = end; kind = kind })

-- a fault of a kind at a place, if there is one
abbrev pub fault_from : ℕ → Option FaultKind → Option Fault
fault_from end None = None
fault_from end (Some kind) = Some (record { place = end; kind = kind })

-- the fault of a store, after its last cell, if the file is damaged
abbrev pub fault_of : Store → Option Fault
fault_of s = fault_from (end_of s) s.fault

-- the stop at this record; if there is none, at the end or the fault
abbrev pub stop_of : Store → Option Record → Stop
stop_of s (Some r) = Live r.place r.next
stop_of s None = end_stop (end_of s) s.fault

-- the first record at or after a place; if there is none, the fault, or else the end
abbrev pub stop_at : Store → ℕ → Stop
stop_at s p = stop_of s (next_live s p)

-- each cell of a store takes up a place or more
abbrev pub IsSound : Store → Type 0
IsSound s = AllByRecursion (λ c. 0 < c.width) s.cells
