-- Which entries of a keytab are selected.
use Rattle.std.specs.Prelude.{◌≡◌, ℕ, ◌+◌, ◌-◌, if◌then◌else◌, List, [], ◌∷◌, ◌++◌, Bool, false, true, not, ◌&&◌, ◌||◌, ◌==◌, nat_eq, nat_lt, map, Option, None, Some, is_some}
use Rattle.std.specs.List.{flat_map, list_any}
use Rattle.krb_wire.specs.Names.{have_same_name}
use Rattle.krb_wire.specs.Spelling.{Parts}
use Rattle.krb_keytab.specs.Entry.{EntryParts}
use Rattle.krb_keytab.specs.Find.{PlacedEntry, placed_entries}
use Rattle.krb_keytab.specs.Store.{KeytabState}
use Rattle.krb_keytab_text.specs.Listing.{removed_line}
use Rattle.krb_names.specs.Asked.{AskedParts, passes}
use Rattle.krb_audit.specs.declared.selection.SelectedKvno.{SelectedKvno}
use Rattle.krb_audit.specs.declared.selection.SelectedKvno.TheVariants.{Any, Exactly, Newest, Beyond}
use Rattle.krb_audit.specs.declared.selection.Selected.{Selected}
use Rattle.krb_audit.specs.Findings.{first_alike, repeats}
use Rattle.krb_audit.specs.Newest.{is_left, is_old, left_after}
use Rattle.krb_audit.specs.Ranks.{kept_after}

-- an enctype is one of the selected enctypes, if any are given
abbrev pub has_selected_enctype : List ℕ → ℕ → Bool
has_selected_enctype [] enctype = true
has_selected_enctype (first ∷ others) enctype = list_any (nat_eq enctype) (first ∷ others)

-- which entries are selected: those of these names, of these enctypes, or of any if there are none, and of these kvnos; or, of all these, only those that repeat an earlier entry
pub record SelectionParts : Type 0 where
  pub names : AskedParts
  pub kvno : SelectedKvno
  pub enctypes : List ℕ
  pub only_same : Bool

-- a kvno is the given one, if one is given
abbrev pub has_given_kvno : SelectedKvno → ℕ → Bool
has_given_kvno (Exactly given) version = version == given
has_given_kvno kvno version = true

-- an entry has a selected name, a selected enctype and, if one is given, the kvno
abbrev pub is_named : SelectionParts → EntryParts → Bool
is_named s e = passes s.names e.principal && (has_selected_enctype s.enctypes e.enctype && has_given_kvno s.kvno e.version)

-- an entry may be less than `seconds` old: by its time, or because its time is 0, which says nothing
abbrev pub is_young : ℕ → ℕ → EntryParts → Bool
is_young now seconds e = e.timestamp == 0 || nat_lt now (e.timestamp + seconds)

-- an entry has a name and the newest kvno of that name, and may be less than `seconds` old
abbrev pub is_young_of : ℕ → ℕ → List PlacedEntry → Parts → PlacedEntry → Bool
is_young_of now seconds xs name x = have_same_name name x.1.principal && (is_young now seconds x.1 && not (is_old xs x.1))

-- an age is given, and one of the entries of a name and its newest kvno may be younger
abbrev pub has_young : ℕ → Option ℕ → List PlacedEntry → Parts → Bool
has_young now None xs name = false
has_young now (Some seconds) xs name = list_any (is_young_of now seconds xs name) xs

-- an entry is old among entries; with an age, only if all newest entries of its name are as old at a second `now`
abbrev pub is_old_for : ℕ → Option ℕ → List PlacedEntry → EntryParts → Bool
is_old_for now age xs e = not (has_young now age xs e.principal) && is_old xs e

-- an entry of the entries `xs` has a selected kvno at a second `now`: any, a given one, that of the newest entry of its name, or one beyond the `keep` newest kvnos, at least one; with an age, the last of these has to be as old
abbrev pub has_selected_kvno : SelectedKvno → ℕ → List PlacedEntry → EntryParts → Bool
has_selected_kvno Any now xs e = true
has_selected_kvno (Exactly version) now xs e = e.version == version
has_selected_kvno Newest now xs e = not (is_old xs e)
has_selected_kvno (Beyond keep age) now xs e = is_left (keep - 1) xs e && is_old_for now age (left_after (keep - 1) xs) e

-- a selection of kvnos needs the clock: one with an age does
abbrev pub needs_clock : SelectedKvno → Bool
needs_clock (Beyond keep age) = is_some age
needs_clock kvno = false

-- an entry is one of those selected, or repeats an earlier one if only such are: it has the name, kvno, enctype and key of the first of these
abbrev pub is_same_if : Bool → List PlacedEntry → PlacedEntry → Bool
is_same_if only_same before x = if only_same then repeats (first_alike before x) else true

-- an entry is selected among all, after the entries before it, at a second `now`
abbrev pub is_selected : SelectionParts → ℕ → List PlacedEntry → List PlacedEntry → PlacedEntry → Bool
is_selected s now all before x = is_named s x.1 && (has_selected_kvno s.kvno now all x.1 && is_same_if s.only_same before x)

-- the entries that are selected among entries, at a second `now`
abbrev pub selected_of : SelectionParts → ℕ → List PlacedEntry → List PlacedEntry
selected_of s now xs = kept_after (is_selected s now xs) [] xs

-- the entries of a keytab that are selected, at a second `now`, in file order
abbrev pub selected_in : SelectionParts → ℕ → KeytabState → List PlacedEntry
selected_in s now k = selected_of s now (placed_entries k)

-- the result is these entries: their places, their lines, each after a label, and whether some entry is named so
pub record Selects {A : Type 0} (label : List ℕ) (s : SelectionParts) (now : ℕ) (k : KeytabState) (selected : Selected A) : Type 0 where
  pub places : selected.places.items ≡ map (λ x. x.0) (selected_in s now k)
  pub text : selected.text.items ≡ flat_map (λ x. label ++ removed_line x) (selected_in s now k)
  pub is_named : selected.is_named ≡ list_any (λ x. is_named s x.1) (placed_entries k)

-- those entries were added: their places, and their lines after a label
pub record AreAdded {A : Type 0} (label : List ℕ) (selected : Selected A) (xs : List PlacedEntry) : Type 0 where
  pub places : selected.places.items ≡ map (λ x. x.0) xs
  pub text : selected.text.items ≡ flat_map (λ x. label ++ removed_line x) xs
