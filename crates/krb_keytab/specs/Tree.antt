-- A tree over a list of sizes, which finds the first of them that is large enough.
use Rattle.std.specs.Prelude.{◌≡◌, ℕ, ◌+◌, ◌-◌, ◌*◌, ◌^◌, ◌<◌, ◌≤◌, List, ◌++◌, replicate, Option, Some, None, nat_le}
use Rattle.std.specs.List.{position}

-- the sizes, whose number is a power of two; how many levels of nodes are over them; how many numbers there is room for
pub record SizeTree : Type 0 where
  pub sizes : List ℕ
  pub height : ℕ
  pub room : ℕ

-- the first size of at least this many bytes, by its number
abbrev pub first_fit : ℕ → List ℕ → Option ℕ
first_fit need sizes = position (λ n. nat_le need n) sizes

-- how many nodes are read to find it: one on each level, or the root alone if no size is large enough
abbrev pub looks_for : ℕ → Option ℕ → ℕ
looks_for height (Some leaf) = height + 1
looks_for height None = 1

-- the least number of levels that have at least this many leaves under them
abbrev pub IsHeightFor : ℕ → ℕ → Type 0
IsHeightFor count height = (count ≤ 2 ^ height) × ((lower : ℕ) → lower < height → 2 ^ lower < count)

-- there is room for this many sizes, and the nodes over them
abbrev pub HasRoomFor : ℕ → SizeTree → Type 0
HasRoomFor count t = (height : ℕ) → IsHeightFor count height → 2 * 2 ^ height ≤ t.room

-- a tree over this many cells once one is added, whose leaf is 0: the sizes are as before, and zeros after them
pub record IsGrown (count : ℕ) (old new : SizeTree) : Type 0 where
  pub sizes : new.sizes ≡ old.sizes ++ replicate (2 ^ new.height - 2 ^ old.height) 0
  pub height : IsHeightFor (count + 1) new.height
  pub higher : old.height ≤ new.height
