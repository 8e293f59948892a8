-- Cells split at a place: lemmas for implementations of `Placed`.
use Rattle.krb_walk.proofs.Cited.{◌≡◌, ℕ, ◌+◌, ◌<◌, ◌≤◌, Bool, true, false, List, [], ◌∷◌, ◌++◌, Option, Some, None, refl, ap, arith, ◌==◌, is_some, AllByRecursion, Cell, end_from, is_place_from, FaultKind, fault_from}
use Rattle.krb_walk.proofs.Stops.{next_from, bytes_from, end_from-ge, is_place_from-first, is_place_from-cons}
use Rattle.krb_walk.proofs.Cells.{find_head, find_tail}

-- ---- from a split

-- the place after cells and more cells
pub end_from-append : (at : ℕ) (before after : List Cell) → end_from at (before ++ after) ≡ end_from (end_from at before) after
end_from-append at [] after = refl
end_from-append at (c ∷ before) after = end_from-append (at + c.width) before after

-- the place where cells are split is a place
pub split_is_place : (at : ℕ) (before after : List Cell) → is_place_from at (before ++ after) (end_from at before) ≡ true
split_is_place at [] after = is_place_from-first at after
split_is_place at (c ∷ before) after = is_place_from-cons at c.width (end_from (at + c.width) before) c.live (before ++ after) (split_is_place (at + c.width) before after)

-- a look-up of the next record at or after a split skips the cells before it
pub next_ahead : (at p : ℕ) (before after : List Cell) → AllByRecursion (λ c. 0 < c.width) before → end_from at before ≤ p → next_from at (before ++ after) p ≡ next_from (end_from at before) after p
next_ahead at p [] after sound le = refl
next_ahead at p (c ∷ before) after sound le = search (arith, end_from-ge, next_ahead (at + c.width) p before after sound.1 le)

-- so does a look-up of bytes
pub bytes_ahead : (at p : ℕ) (before after : List Cell) → AllByRecursion (λ c. 0 < c.width) before → end_from at before ≤ p → bytes_from at (before ++ after) p ≡ bytes_from (end_from at before) after p
bytes_ahead at p [] after sound le = refl
bytes_ahead at p (c ∷ before) after sound le = search (arith, find_tail, end_from-ge, bytes_ahead (at + c.width) p before after sound.1 le)

-- the bytes at a split are those of the cell there
pub bytes_here : (at w : ℕ) (live : Option (List ℕ)) (before after : List Cell) → AllByRecursion (λ c. 0 < c.width) before → bytes_from at (before ++ record { width = w; live = live } ∷ after) (end_from at before) ≡ live
bytes_here at w live before after sound = search (arith, bytes_ahead, find_head)

-- there is no fault if none is reported
pub whole_of : (place : ℕ) (kind : Option FaultKind) → is_some (fault_from place kind) ≡ false → kind ≡ None
whole_of place kind h = search arith

-- ---- to a split

-- cells that are split before a live one at p
pub record SplitsLive (at : ℕ) (cells : List Cell) (p : ℕ) (bytes : List ℕ) : Type 0 where
  pub before : List Cell
  pub width : ℕ
  pub after : List Cell
  pub place : p ≡ end_from at before
  pub is : cells ≡ before ++ record { width = width; live = Some bytes } ∷ after

live_splits_here : (at w p : ℕ) (live : Option (List ℕ)) (cells : List Cell) (bytes : List ℕ) → p ≡ at → live ≡ Some bytes → SplitsLive at (record { width = w; live = live } ∷ cells) p bytes
live_splits_here at w p live cells bytes same is = record { before = []; width = w; after = cells; place = same; is = ap (λ (l : Option (List ℕ)). record { width = w; live = l } ∷ cells) is }

live_splits_cons : (at w p : ℕ) (live : Option (List ℕ)) (cells : List Cell) (bytes : List ℕ) (b : Bool) → (at == p) ≡ b → (bytes_from (at + w) cells p ≡ Some bytes → SplitsLive (at + w) cells p bytes) → bytes_from at (record { width = w; live = live } ∷ cells) p ≡ Some bytes → SplitsLive at (record { width = w; live = live } ∷ cells) p bytes
live_splits_cons at w p live cells bytes true e ih is = search (arith, live_splits_here, bytes_from)
live_splits_cons at w p live cells bytes false e ih is =
    let rest = ih (rw e at is) in
    record { before = record { width = w; live = live } ∷ rest.before; width = rest.width; after = rest.after; place = rest.place; is = ap (λ (cs : List Cell). record { width = w; live = live } ∷ cs) rest.is }

-- cells with bytes at p can be split before the live cell there
pub live_splits : (at p : ℕ) (cells : List Cell) (bytes : List ℕ) → bytes_from at cells p ≡ Some bytes → SplitsLive at cells p bytes
live_splits at p [] bytes is = cc
live_splits at p (c ∷ cells) bytes is = live_splits_cons at c.width p c.live cells bytes (at == p) refl (live_splits (at + c.width) p cells bytes) is
