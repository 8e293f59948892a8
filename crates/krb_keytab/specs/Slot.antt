-- A slot: what a table holds of one cell.
use Rattle.std.specs.Prelude.{ℕ, ◌-◌, ◌^◌, ◌<◌, ◌≤◌, Bool, true, false, List, length, map, slice_index}
use Rattle.krb_keytab.specs.declared.cells.Hole.{Hole}
use Rattle.krb_keytab.specs.declared.length.Length.{Length}
use Rattle.krb_keytab.specs.declared.length.Length.TheVariants as says
use Rattle.krb_keytab.specs.Cells.{Cell, length_field, length_of, size_of}
use Rattle.krb_keytab.specs.Changes.{PlacedCell, placed_cells}
use Rattle.krb_keytab.specs.declared.indexed.slot.Slot.{Slot}

-- a hole's length
abbrev pub is_hole : Length → Bool
is_hole says.End = false
is_hole (says.Live n) = false
is_hole (says.Free n) = true

-- how many bytes a hole has by its length: 0 if it is not a hole's
abbrev pub room_of : Length → ℕ
room_of says.End = 0
room_of (says.Live n) = 0
room_of (says.Free n) = n

-- its length is that of a free cell
abbrev pub is_free : Slot → Bool
is_free s = is_hole (length_of s.field)

-- how many bytes the cell has after its length
abbrev pub size : Slot → ℕ
size s = size_of (length_of s.field)

-- how many bytes an entry may take there: 0 if the cell is live
abbrev pub free_size : Slot → ℕ
free_size s = room_of (length_of s.field)

-- the cell is live if it was free, and free if it was live
abbrev pub negated : Slot → Slot
negated s = record { place = s.place; field = 2 ^ 32 - s.field }

-- the slot of a cell at a place
abbrev pub slot_of : PlacedCell → Slot
slot_of x = record { place = x.0; field = length_field x.1 }

-- the slots of cells that start at a place
abbrev pub slots_from : ℕ → List Cell → List Slot
slots_from at cells = map slot_of (placed_cells at cells)

-- the places of cells, in order
abbrev pub places : List Slot → List ℕ
places slots = map (λ s. s.place) slots

-- each number is less than those after it
abbrev pub IsRising : List ℕ → Type 0
IsRising xs = (i j : ℕ) → i < j → j < length xs → slice_index xs i < slice_index xs j

-- the first `rank` of the numbers are less than p, and the others are not
pub record IsRank (xs : List ℕ) (p rank : ℕ) : Type 0 where
  pub within : rank ≤ length xs
  pub below : (i : ℕ) → i < rank → slice_index xs i < p
  pub rest : (i : ℕ) → rank ≤ i → i < length xs → p ≤ slice_index xs i

-- a hole by its slot
abbrev pub hole_of_slot : Slot → Hole
hole_of_slot s = record { place = s.place; size = size s }
