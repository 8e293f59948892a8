-- Entries of two lists, with the numbers of their classes.
use Rattle.std.specs.Prelude.{◌≡◌, ℕ, List, [], ◌∷◌, ◌++◌, length, get_or, slice_set, find, Bool, true, false, not, ◌&&◌, ◌||◌, ◌==◌, Option, None, Some, option_map, codes, decimal, if◌then◌else◌}
use Rattle.std.specs.List.{list_any, position_from}
use Rattle.std.specs.Str.{bytes_eq}
use Rattle.std.specs.declared.cmp.Ordering.{Ordering}
use Rattle.std.specs.Ordering.{nat_cmp, ordering_then}
use Rattle.std.specs.Cmp.Lexicographic.{slice_cmp}
use Rattle.std.specs.BTreeSet.{contains_by}
use denote.Ref.{Bor}
use Rattle.krb_keytab.specs.Entry.{EntryParts}
use Rattle.krb_keytab.specs.Find.{PlacedEntry}
use Rattle.krb_keytab_text.specs.Listing.{placed_line}
use Rattle.krb_names.specs.Twins.{are_twins}
use Rattle.krb_names.specs.Numbers.{AreNumbers}
use Rattle.krb_copy.specs.Classes.{IsClassKey}
use Rattle.krb_copy.specs.Diff.{has_twin}
use Rattle.krb_copy.specs.Texts.{AreTexts, name_texts}
use Rattle.krb_copy.specs.declared.diff.Keys.{Keys}
use Rattle.krb_copy.specs.declared.numbering.Numbering.{Numbering}
use Rattle.krb_copy.specs.declared.numbering.Row.{Row}

-- the number of an entry's class: that of its first twin, if entries are numbered from 0
abbrev pub class_number : EntryParts → List PlacedEntry → Option ℕ
class_number x all = position_from (λ y. are_twins x y.1) 0 all

-- what a row has
abbrev pub shown : Row → Option ℕ × Bool × PlacedEntry
shown r = (Some r.number, r.is_first, (r.place, r.entry.now))

-- what the row of an entry has: the number of its class among all, and whether it is the first of it
abbrev pub row_due : List PlacedEntry → List PlacedEntry → PlacedEntry → Option ℕ × Bool × PlacedEntry
row_due all before x = (class_number x.1 all, not (has_twin x.1 before), x)

-- what the rows of entries have, if these entries are before them
abbrev pub rows_due : List PlacedEntry → List PlacedEntry → List PlacedEntry → List (Option ℕ × Bool × PlacedEntry)
rows_due all before [] = []
rows_due all before (x ∷ xs) = row_due all before x ∷ rows_due all (before ++ x ∷ []) xs

-- an entry, without its place
abbrev pub entry_of : PlacedEntry → EntryParts
entry_of x = x.1

-- the entries `before` are numbered, and `rest` are still to come
pub record IsNumbering {A : Type 0} (all before rest : List PlacedEntry) (n : Numbering A) : Type 0 where
  pub parts : before ++ rest ≡ all
  pub texts : AreTexts (name_texts rest) n.texts.bytes.now n.texts.lens.now
  pub numbers : AreNumbers entry_of are_twins IsClassKey before n.numbers
  pub count : n.count ≡ length before

-- ---- the keys of rows

-- the number of a class, and a key
abbrev pub NumberedKey : Type 0
NumberedKey = ℕ × Bor (List ℕ)

-- how a number and a key compare to them
abbrev pub to_key : ℕ → List ℕ → NumberedKey → Ordering
to_key number key k = ordering_then (nat_cmp number k.0) (slice_cmp nat_cmp key k.1.now)

-- a first entry has a key
abbrev pub is_key_of : List ℕ → Option (ℕ × Bor (List ℕ)) → Bool
is_key_of key None = false
is_key_of key (Some first) = bytes_eq key first.1.now

-- a class has a key
abbrev pub has_key : {A : Type 0} → Keys A → ℕ → List ℕ → Bool
has_key keys number key = is_key_of key (get_or keys.firsts.items number None) || contains_by (to_key number key) keys.more

-- its first place
abbrev pub first_place : {A : Type 0} → Keys A → ℕ → Option ℕ
first_place keys number = option_map (λ f. f.0) (get_or keys.firsts.items number None)

-- the keys are those of these rows
pub record AreKeys {A : Type 0} (rows : List Row) (keys : Keys A) : Type 0 where
  pub firsts : (n : ℕ) → first_place keys n ≡ option_map (λ r. r.place) (find (λ r. r.number == n) rows)
  pub have : (n : ℕ) (key : List ℕ) → has_key keys n key ≡ list_any (λ r. r.number == n && bytes_eq key r.entry.now.key) rows

-- a class has a row whose key is not among the keys
abbrev pub lacks : {A : Type 0} → Keys A → ℕ → List Row → Bool
lacks keys n rows = list_any (λ r. r.number == n && not (has_key keys n r.entry.now.key)) rows

-- the marks with that of the class of a row, unless its key is among the keys
abbrev pub marked : {A : Type 0} → Keys A → List Bool → Row → List Bool
marked keys marks r = if has_key keys r.number r.entry.now.key then marks else slice_set marks r.number true

-- the line of a first row, by the first place of its class in the other list, and whether the keys differ
abbrev pub row_line : PlacedEntry → Bool → Option ℕ → List ℕ
row_line x differ None = placed_line (codes "- ") x
row_line x differ (Some place) = if differ then codes "! " ++ (decimal x.0 ++ placed_line (codes " ") (place, x.1)) else []
