-- Which keys two lists of entries do not share.
use Rattle.std.specs.Prelude.{ℕ, List, [], ◌∷◌, ◌++◌, Bool, ◌&&◌, ◌||◌, not, map, find, codes, decimal, Option, None, Some, if◌then◌else◌}
use Rattle.std.specs.List.{flat_map, filter_map, list_any}
use Rattle.krb_keytab.specs.Entry.{EntryParts}
use Rattle.krb_keytab.specs.Find.{PlacedEntry}
use Rattle.krb_keytab_text.specs.Listing.{placed_line}
use Rattle.krb_names.specs.Twins.{are_twins, are_same}

-- a list has a twin of an entry
abbrev pub has_twin : EntryParts → List PlacedEntry → Bool
has_twin x ys = list_any (λ y. are_twins x y.1) ys

-- the first entries of their twins (entries of the same name, kvno and enctype), if the entries `before` come before
abbrev pub firsts : List PlacedEntry → List PlacedEntry → List PlacedEntry
firsts before [] = []
firsts before (x ∷ xs) = (if has_twin x.1 before then [] else x ∷ []) ++ firsts (before ++ x ∷ []) xs

-- a twin of an entry in xs has a key that none of its twins in ys has
abbrev pub has_more_keys : EntryParts → List PlacedEntry → List PlacedEntry → Bool
has_more_keys x xs ys = list_any (λ a. are_twins x a.1 && not (list_any (λ b. are_same a.1 b.1) ys)) xs

-- a difference of two keytabs, about entries of one name, kvno and enctype: only the first keytab has them, or only the second, or both, and their keys are not the same
pub data Difference : Type 0 where
  Ours : PlacedEntry → Difference
  Both : PlacedEntry → PlacedEntry → Difference
  Theirs : PlacedEntry → Difference

-- the difference about a first entry of xs, by its first twin in ys
abbrev pub difference_by : List PlacedEntry → List PlacedEntry → PlacedEntry → Option PlacedEntry → Option Difference
difference_by xs ys x None = Some (Ours x)
difference_by xs ys x (Some y) = if has_more_keys x.1 xs ys || has_more_keys x.1 ys xs then Some (Both x y) else None

-- the difference about a first entry of xs
abbrev pub difference_at : List PlacedEntry → List PlacedEntry → PlacedEntry → Option Difference
difference_at xs ys x = difference_by xs ys x (find (λ y. are_twins x.1 y.1) ys)

-- the differences of two keytabs: about the entries of xs, in order, and then about those that only ys has
abbrev pub differences : List PlacedEntry → List PlacedEntry → List Difference
differences xs ys = filter_map (difference_at xs ys) (firsts [] xs) ++ map Theirs (firsts xs ys)

-- the line of a difference: `- ` if only the first keytab has the entry, `+ ` if only the second, `! ` if the keys differ
abbrev pub difference_line : Difference → List ℕ
difference_line (Ours x) = placed_line (codes "- ") x
difference_line (Both x y) = codes "! " ++ (decimal x.0 ++ placed_line (codes " ") (y.0, x.1))
difference_line (Theirs y) = placed_line (codes "+ ") y

-- the lines
unfoldable pub diff_text : List PlacedEntry → List PlacedEntry → List ℕ
diff_text xs ys = flat_map difference_line (differences xs ys)
