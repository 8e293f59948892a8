-- A table of a keytab's cells, and a tree over the free size of each.
use Rattle.std.specs.Prelude.{◌≡◌, ℕ, ◌+◌, ◌-◌, ◌^◌, ◌<◌, List, ◌++◌, length, map, max, replicate, slice_index_or, Option, Some, None, option_map, IsSome}
use Rattle.krb_walk.specs.Store.{live_bytes}
use Rattle.krb_keytab.specs.Changes.{first_hole, hole_from}
use Rattle.krb_keytab.specs.Store.{KeytabState, image_of, store_of, end_place}
use Rattle.krb_keytab.specs.declared.indexed.slot.Slot.{Slot}
use Rattle.krb_keytab.specs.Slot.{slots_from, free_size, hole_of_slot}
use Rattle.krb_keytab.specs.Tree.{SizeTree, IsHeightFor, HasRoomFor}

-- the place of the first hole that is large enough; a need of 0 counts as 1
abbrev pub fit_of : KeytabState → ℕ → Option ℕ
fit_of k need = option_map (λ x. x.0) (first_hole 2 (max need 1) k.contents.cells)

-- the slot of the cell with this number
abbrev pub slot_at : KeytabState → ℕ → Slot
slot_at k number = slice_index_or (slots_from 2 k.contents.cells) number (record { place = 0; field = 0 })

-- the cell with this number is at a place, and is live
pub record IsLiveNumber (k : KeytabState) (p number : ℕ) : Type 0 where
  pub inside : number < length k.contents.cells
  pub place : (slot_at k number).place ≡ p
  pub live : IsSome (live_bytes (store_of k) p)

-- the first hole that is large enough, by the number of its cell
abbrev pub IsFit : KeytabState → ℕ → Option ℕ → Type 0
IsFit k need None = hole_from 2 need k.contents.cells ≡ None
IsFit k need (Some number) = (number < length k.contents.cells) × (hole_from 2 need k.contents.cells ≡ Some (hole_of_slot (slot_at k number)))

-- the table has the slot of each cell, and the leaves of the tree its free size; the tree is no higher than it has to be
pub record IsIndex (k : KeytabState) (slots : List Slot) (t : SizeTree) : Type 0 where
  pub table : slots ≡ slots_from 2 k.contents.cells
  pub sizes : t.sizes ≡ map free_size slots ++ replicate (2 ^ t.height - length slots) 0
  pub height : IsHeightFor (length slots) t.height

-- if more than an end mark is after the cells, table and tree have room for one more
abbrev pub HasSpare : KeytabState → ℕ → ℕ → SizeTree → Type 0
HasSpare k count room t = end_place 2 k.contents.cells + 4 < length (image_of k) → (count < room) × HasRoomFor (count + 1) t
