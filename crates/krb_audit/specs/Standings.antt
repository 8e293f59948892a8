-- How entries rank, and which kvnos are selected, from the rows of entries.
use Rattle.std.specs.Prelude.{◌≡◌, ℕ, ◌+◌, ◌-◌, drop, map, List, [], ◌∷◌, get_or, Bool, false, true, not, if◌then◌else◌, ◌&&◌, ◌==◌, Option, Some, None, option_map}
use Rattle.std.specs.List.{list_any}
use Rattle.std.specs.Option.{option_map_or}
use Rattle.krb_wire.specs.Spelling.{Parts}
use Rattle.krb_keytab.specs.Find.{PlacedEntry}
use Rattle.krb_audit.specs.declared.rows.Row.{Row}
use Rattle.krb_audit.specs.declared.selection.SelectedKvno.{SelectedKvno}
use Rattle.krb_audit.specs.declared.selection.SelectedKvno.TheVariants.{Any, Exactly, Newest, Beyond}
use Rattle.krb_audit.specs.declared.newest.Stamp.{Stamp}
use Rattle.krb_audit.specs.Newest.{has_other_version}
use Rattle.krb_audit.specs.Ranks.{RankParts, is_strong_of}
use Rattle.krb_audit.specs.Rows.{AreRows, first_number, newest_stamp, stamped}
use Rattle.krb_audit.specs.Selection.{has_young, is_young}

-- the stamps are those of the newest entries of `xs`, whose names are numbered among all
abbrev pub AreNewest : List PlacedEntry → List PlacedEntry → List (Option Stamp) → Type 0
AreNewest all xs newest = (p : Parts) (i : ℕ) → first_number p all ≡ Some i → get_or newest i None ≡ newest_stamp p xs

-- a row is that of an old entry, by those stamps
abbrev pub is_old_row : List (Option Stamp) → Row → Bool
is_old_row newest r = has_other_version (stamped r.stamp) (option_map stamped (get_or newest r.first None))

-- a row is that of an entry of its name's newest kvno which may be less than `seconds` old
abbrev pub is_young_row : ℕ → ℕ → List (Option Stamp) → Row → Bool
is_young_row now seconds newest r = is_young now seconds (stamped r.stamp) && not (is_old_row newest r)

-- each mark says whether a name has such an entry among `xs`, if an age is given
abbrev pub AreYoungOf : Option ℕ → ℕ → List PlacedEntry → List PlacedEntry → List Bool → Type 0
AreYoungOf age now all xs young = (p : Parts) (i : ℕ) → first_number p all ≡ Some i → get_or young i false ≡ has_young now age xs p

-- each mark does, if old entries are selected
abbrev pub AreYoung : SelectedKvno → ℕ → List PlacedEntry → List PlacedEntry → List Bool → Type 0
AreYoung (Beyond keep age) now all xs young = AreYoungOf age now all xs young
AreYoung kvno now all xs young = Unit {0}

-- the entry of a row has a selected kvno, by those stamps and marks
abbrev pub selects_row : SelectedKvno → List (Option Stamp) → List Bool → Row → Bool
selects_row Any newest young r = true
selects_row (Exactly version) newest young r = r.stamp.kvno == version
selects_row Newest newest young r = not (is_old_row newest r)
selects_row (Beyond keep age) newest young r = not (get_or young r.first false) && is_old_row newest r

-- a row has the name and the kvno of the first of some rows
abbrev pub is_next : List Row → Row → Bool
is_next [] r = false
is_next (s ∷ rows) r = s.first == r.first && s.stamp.kvno == r.stamp.kvno

-- the rows after the first one, if a row has its name and its kvno
abbrev pub after_next : List Row → Row → List Row
after_next rows r = if is_next rows r then drop 1 rows else rows

-- for each row, whether it is the next one of those selected
abbrev pub selected_marks : List Row → List Row → List Bool
selected_marks selected [] = []
selected_marks selected (r ∷ rs) = is_next selected r ∷ selected_marks (after_next selected r) rs

-- how many of the newest kvnos are passed over before the last one that is kept
abbrev pub more_kept : SelectedKvno → ℕ
more_kept (Beyond keep age) = keep - 1
more_kept kvno = 0

-- ---- ranks

-- what is read of each row and its number, from a number on
abbrev pub numbered_rows : {X : Type 0} → (ℕ → Row → X) → ℕ → List Row → List X
numbered_rows read n [] = []
numbered_rows read n (r ∷ rs) = read n r ∷ numbered_rows read (n + 1) rs

-- a row is that of an entry of its name's newest kvno which has a strong enctype
abbrev pub is_strong_row : List (Option Stamp) → Row → Bool
is_strong_row newest r = not r.is_weak && not (is_old_row newest r)

-- each mark says whether a name has such an entry
abbrev pub AreStrong : List PlacedEntry → List Bool → Type 0
AreStrong xs strong = (p : Parts) (i : ℕ) → first_number p xs ≡ Some i → get_or strong i false ≡ list_any (is_strong_of xs p) xs

-- how the entry of a numbered row ranks, by those stamps and marks
abbrev pub rank_row : List (Option Stamp) → List Bool → ℕ → Row → RankParts
rank_row newest strong n r = record {
  first = Some r.first;
  newest = option_map_or (λ s. s.kvno) (get_or newest r.first None) 0;
  is_first = r.first == n;
  is_old = is_old_row newest r;
  lacks_strong = not (get_or strong r.first false);
}
