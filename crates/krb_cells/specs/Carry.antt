-- Where a rewrite carries the cursors of a store in an image that is replaced.
use Rattle.std.specs.Prelude.{◌≡◌, ℕ, ◌+◌, ◌-◌, ◌<◌, ◌≤◌, List, [], ◌∷◌, length, take, drop, Bool, true, false, None, nat_le, is_some, option_map, if◌then◌else◌}
use Rattle.std.specs.Int.{w32}
use Rattle.std.specs.Option.{unwrap_or}
use Rattle.krb_wire.specs.declared.format.Order.TheVariants.{Big}
use Rattle.krb_wire.specs.Spelling.{digits}
use Rattle.krb_wire.specs.Reading.{number_at}
use Rattle.krb_walk.specs.Store.{Cell, Store, end_from, is_place_from}

-- cells from a place on, with no fault after them
abbrev pub whole : ℕ → List Cell → Store
whole first cells = record { first = first; cells = cells; fault = None }

-- the bytes between two places
abbrev pub between : ℕ → ℕ → List ℕ → List ℕ
between first end bytes = take (end - first) (drop first bytes)

-- the store of the cells between two places
abbrev pub store_in : (List ℕ → List Cell) → List ℕ → ℕ → ℕ → Store
store_in cells image first end = whole first (cells (between first end image))

-- ---- for private contracts alone

-- the width of what a cell is rewritten as: that of the first new cell, if the old one is live
abbrev pub new_width : Bool → List Cell → ℕ
new_width false ds = 0
new_width true [] = 0
new_width true (d ∷ ds) = d.width

-- the new cells after that one
abbrev pub new_after : Bool → List Cell → List Cell
new_after false ds = ds
new_after true [] = []
new_after true (d ∷ ds) = ds

-- the first cell of some bytes is passed, and with it the new cell that it is rewritten as, if it is live
pub record Passes (cells : List ℕ → List Cell) (bytes : List ℕ) (old : Store) (width : ℕ) (new : Store) : Type 0 where
  pub cell : Cell
  pub is_width : width ≡ cell.width
  pub parts : cells bytes ≡ cell ∷ cells (drop cell.width bytes)
  pub first : new.first ≡ old.first + new_width (is_some cell.live) old.cells
  pub left : new.cells ≡ new_after (is_some cell.live) old.cells

-- where the place p goes, if the cells from `at` on are rewritten as those from `to` on, one for each that is live
abbrev pub new_place : ℕ → List Cell → ℕ → List Cell → ℕ → ℕ
new_place at [] to ds p = to
new_place at (c ∷ cs) to ds p = if nat_le p at then to else new_place (at + c.width) cs (to + new_width (is_some c.live) ds) (new_after (is_some c.live) ds) p

-- the four bytes at a place encode a number
pub record EncodesAt (image : List ℕ) (p n : ℕ) : Type 0 where
  pub within : p + 4 ≤ length image
  pub bytes : take 4 (drop p image) ≡ digits Big w32 n

-- the first four bytes of each cell encode where it goes
abbrev pub AreGiven : List ℕ → ℕ → List Cell → ℕ → List Cell → Type 0
AreGiven image at cs to ds = (p : ℕ) → is_place_from at cs p ≡ true → p < end_from at cs → EncodesAt image p (new_place at cs to ds p)

-- where a place goes: the number that its four bytes encode, or the last place if it is the end
abbrev pub given_at : List ℕ → ℕ → ℕ → ℕ → ℕ
given_at image end last p = if nat_le end p then last else unwrap_or (option_map (λ x. x.0) (number_at Big w32 (drop p image))) last
