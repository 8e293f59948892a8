-- The nodes of a tree in one list: the root is number 1, the children of node i are 2 i and 2 i + 1, the leaves are last. Number 0 is no node.
use Rattle.std.specs.Prelude.{◌≡◌, ◌≢◌, ℕ, ◌+◌, ◌*◌, ◌^◌, ◌<◌, ◌≤◌, List, length, max, slice_index, nat_le, if◌then◌else◌}

-- a node has the greater of its children
abbrev pub IsNode : List ℕ → ℕ → Type 0
IsNode nodes i = slice_index nodes i ≡ max (slice_index nodes (2 * i)) (slice_index nodes (2 * i + 1))

-- so has each node over this many leaves, except perhaps one
abbrev pub AreNodesBut : ℕ → ℕ → List ℕ → Type 0
AreNodesBut but leaves nodes = (i : ℕ) → 0 < i → i < leaves → i ≢ but → IsNode nodes i

-- so has each node over this many leaves from one on
abbrev pub AreNodesFrom : ℕ → ℕ → List ℕ → Type 0
AreNodesFrom first leaves nodes = (i : ℕ) → first ≤ i → i < leaves → IsNode nodes i

-- so has each node over this many leaves
abbrev pub AreNodes : ℕ → List ℕ → Type 0
AreNodes leaves nodes = AreNodesFrom 1 leaves nodes

-- a tree of this many levels over its leaves
pub record IsTree (height : ℕ) (nodes : List ℕ) : Type 0 where
  pub len : length nodes ≡ 2 * 2 ^ height
  pub low : height ≤ 30
  pub inner : AreNodes (2 ^ height) nodes

-- the first child of a node that has at least this size, if one has it
abbrev pub child_with : ℕ → ℕ → List ℕ → ℕ
child_with need i nodes = if nat_le need (slice_index nodes (2 * i)) then 2 * i else 2 * i + 1
