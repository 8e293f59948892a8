-- How a store changes: one cell becomes another of its size, or one is appended, or the store is rewritten.
use Rattle.std.specs.Prelude.{◌≡◌, ℕ, ◌<◌, ◌⊎◌, List, [], ◌∷◌, ◌++◌, Some, None}
use Rattle.krb_walk.specs.Store.{Cell, Store, end_from, end_of}
use Rattle.krb_walk.specs.Ranks.{Rewrites}
use Rattle.krb_walk.specs.ReplyContent.{ReplyContent, Placed, Gone, Rewritten}

-- a store went from `old` to `new`: the cell at a place became another, and all else is unchanged
pub record OneCell (old new : Store) (p : ℕ) (was is : Cell) : Type 0 where
  pub before : List Cell
  pub after : List Cell
  pub place : p ≡ end_from old.first before
  pub old_cells : old.cells ≡ before ++ was ∷ after
  pub new_cells : new.cells ≡ before ++ is ∷ after
  pub first : new.first ≡ old.first
  pub fault : new.fault ≡ old.fault

-- a store went from `old` to `new`: a free cell at a place became a live one of its width
pub record Fills (old new : Store) (p : ℕ) : Type 0 where
  pub width : ℕ
  pub bytes : List ℕ
  pub cell : OneCell old new p (record { width = width; live = None }) (record { width = width; live = Some bytes })

-- a store went from `old` to `new`: a live cell at a place became a free one of its width
pub record Frees (old new : Store) (p : ℕ) : Type 0 where
  pub width : ℕ
  pub bytes : List ℕ
  pub cell : OneCell old new p (record { width = width; live = Some bytes }) (record { width = width; live = None })

-- a live cell is appended at the end place
pub record Appends (old new : Store) (p : ℕ) : Type 0 where
  pub width : ℕ
  pub bytes : List ℕ
  pub some_width : 0 < width
  pub place : p ≡ end_of old
  pub cells : new.cells ≡ old.cells ++ record { width = width; live = Some bytes } ∷ []
  pub first : new.first ≡ old.first
  pub fault : new.fault ≡ old.fault

-- a store without a fault went from `old` to `new` by an addition: a free cell took the record, or the record was appended
pub record Puts (old new : Store) (p : ℕ) : Type 0 where
  pub whole : old.fault ≡ None
  pub how : Fills old new p ⊎ Appends old new p

-- an accepted removal: the store has no fault, and the live cell at the place is freed
pub record Cuts (old new : Store) (p : ℕ) : Type 0 where
  pub whole : old.fault ≡ None
  pub how : Frees old new p

-- a store went from `old` to `new` as a reply says: by one cell, by a rewrite, or not at all
abbrev pub Changes : ReplyContent → Store → Store → Type 0
Changes (Placed p) old new = Puts old new p
Changes (Gone p) old new = Cuts old new p
Changes (Rewritten p) old new = Rewrites old new
Changes other old new = new ≡ old
