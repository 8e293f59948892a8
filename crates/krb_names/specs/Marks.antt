-- Sets of names that may be marked.
use Rattle.std.specs.Prelude.{◌≡◌, ℕ, List, Bool, true, false, get_or, map, slice_set, Option, None, Some}
use Rattle.krb_names.specs.Set.{HaveSameNames}
use Rattle.krb_names.specs.declared.marks.NameMarks.{NameMarks}

-- marks with the one at a place, if one is given
abbrev pub with_mark : List Bool → Option ℕ → List Bool
with_mark marks None = marks
with_mark marks (Some place) = slice_set marks place true

-- the one at a place is set
abbrev pub has_mark : List Bool → Option ℕ → Bool
has_mark marks None = false
has_mark marks (Some place) = get_or marks place false

-- they have those names, and the ones for which it holds are marked
pub record AreMarked {A : Type 0} (marked : List ℕ → Bool) (texts : List (List ℕ)) (m : NameMarks A) : Type 0 where
  pub names : HaveSameNames texts m.names
  pub marks : m.marks.items ≡ map marked m.names
