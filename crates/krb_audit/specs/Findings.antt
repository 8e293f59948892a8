-- What is found about the entries of a keytab.
use Rattle.std.specs.Prelude.{ℕ, List, [], length, map, filter, find, Bool, false, not, ◌&&◌, ◌||◌, ◌==◌, nat_le, nat_lt, if◌then◌else◌, Option, None, Some, option_map, option_and_then}
use Rattle.std.specs.List.{list_any, range_with_len}
use Rattle.std.specs.Str.{bytes_eq}
use Rattle.krb_wire.specs.Names.{name_text}
use Rattle.krb_keytab.specs.Entry.{EntryParts}
use Rattle.krb_keytab.specs.Find.{PlacedEntry, placed_entries}
use Rattle.krb_keytab.specs.Store.{KeytabState}
use Rattle.krb_text.specs.Etype.{is_key_size, is_weak}
use Rattle.krb_findings.specs.declared.finding.Finding.{Finding}
use Rattle.krb_findings.specs.declared.finding.Finding.TheVariants.{Weak, Hidden, Same, Clash, Old, Size, Aged, Nostrong, Unwanted}
use Rattle.krb_audit.specs.declared.firsts.Alike.{Alike}
use Rattle.krb_audit.specs.declared.marks.Marks.{Marks}
use Rattle.krb_findings.specs.declared.weak_etypes.WeakEtypes.{WeakEtypes}
use Rattle.krb_names.specs.Set.{is_among}
use Rattle.krb_audit.specs.Newest.{is_old}
use Rattle.krb_audit.specs.Ranks.{is_first, lacks_strong, mapped_after, newest_kvno}
use Rattle.krb_findings.specs.Table.{has_some, set_of}
use Rattle.krb_names.specs.Twins.{are_twins}

-- a count or a length makes MIT's programs stop before an entry: it is 0 or above 32,767
abbrev pub is_out : ℕ → Bool
is_out n = n == 0 || nat_lt 32767 n

-- MIT's programs silently stop before an entry: by the count of its components, or the length of a component, its realm or its key
abbrev pub ends_mit : EntryParts → Bool
ends_mit e =
    is_out (length e.principal.components)
    || (is_out (length e.principal.realm) || (list_any (λ c. is_out (length c)) e.principal.components || is_out (length e.key)))

-- the place of the first entry before which MIT's programs stop
abbrev pub first_hidden : List PlacedEntry → Option ℕ
first_hidden xs = option_map (λ x. x.0) (find (λ x. ends_mit x.1) xs)

-- the place in a keytab from which on MIT's programs see no entry, if there is one
abbrev pub hidden_from : KeytabState → Option ℕ
hidden_from k = first_hidden (placed_entries k)

-- the place `from`, if one of the places is there or later
abbrev pub hidden_at : List ℕ → ℕ → Option ℕ
hidden_at places from = if list_any (λ p. nat_le from p) places then Some from else None

-- the place from which on MIT's programs see no entry, if an entry that was added is there or later
abbrev pub hides_added : KeytabState → List ℕ → Option ℕ
hides_added k added = option_and_then (hidden_at added) (hidden_from k)

-- two entries have the same name, kvno and enctype
abbrev pub is_alike : PlacedEntry → PlacedEntry → Bool
is_alike x y = are_twins x.1 y.1

-- what is known of an entry y that is alike to a later entry x: its place, and whether the keys are equal
abbrev pub as_alike : PlacedEntry → PlacedEntry → Alike
as_alike x y = record { place = y.0; has_same_key = bytes_eq y.1.key x.1.key }

-- the first of the entries before x that has its name, kvno and enctype: its place, and whether the keys are equal
abbrev pub first_alike : List PlacedEntry → PlacedEntry → Option Alike
first_alike before x = option_map (as_alike x) (find (is_alike x) before)

-- an earlier entry has the same name, kvno, enctype and key
abbrev pub repeats : Option Alike → Bool
repeats None = false
repeats (Some first) = first.has_same_key

-- an earlier entry has the same name, kvno and enctype, and another key
abbrev pub clashes : Option Alike → Bool
clashes None = false
clashes (Some first) = not first.has_same_key

-- the key of an entry has not the size of its enctype's keys
abbrev pub has_odd_size : EntryParts → Bool
has_odd_size e = not (is_key_size e.enctype (length e.key))

-- an entry is aged by a second, if one is given: the entry has a time, and it is at or before the second
abbrev pub is_aged : Option ℕ → EntryParts → Bool
is_aged None e = false
is_aged (Some by) e = not (e.timestamp == 0) && nat_le e.timestamp by

-- what a check is asked: the second by which entries are aged, the names that have to be there, as they are printed, and whether others are unwanted
pub record CheckAsked : Type 0 where
  pub aged_by : Option ℕ
  pub wanted : List (List ℕ)
  pub only : Bool

-- a check is asked nothing
abbrev pub nothing_asked : CheckAsked
nothing_asked = record { aged_by = None; wanted = []; only = false }

-- a finding holds of an entry x of the keytab k, after the entries `before`; what is found about a name holds of its first entry
abbrev pub is_found : CheckAsked → KeytabState → List PlacedEntry → PlacedEntry → Finding → Bool
is_found asked k before x Weak = is_weak x.1.enctype
is_found asked k before x Size = has_odd_size x.1
is_found asked k before x Hidden = ends_mit x.1 && not (list_any (λ y. ends_mit y.1) before)
is_found asked k before x Same = repeats (first_alike before x)
is_found asked k before x Clash = clashes (first_alike before x)
is_found asked k before x Old = is_old (placed_entries k) x.1
is_found asked k before x Aged = not (is_old (placed_entries k) x.1) && is_aged asked.aged_by x.1
is_found asked k before x Nostrong = is_first before x && lacks_strong (placed_entries k) x.1.principal
is_found asked k before x Unwanted = asked.only && (is_first before x && not (is_among asked.wanted (name_text x.1.principal)))
is_found asked k before x finding = false

-- what is found about an entry x of the keytab k, after the entries `before`
abbrev pub marks_of : CheckAsked → KeytabState → List PlacedEntry → PlacedEntry → Marks
marks_of asked k before x = record {
  findings = set_of (is_found asked k before x);
  first = option_map (λ first. first.place) (first_alike before x);
  newest = newest_kvno x.1.principal (placed_entries k);
}

-- the place of the earlier entry that a finding is about: that of the same name, kvno and enctype
abbrev pub first_for : Marks → Finding → Option ℕ
first_for marks Same = marks.first
first_for marks Clash = marks.first
first_for marks finding = None

-- the newest kvno of a name, if a finding is that it lacks strong keys
abbrev pub newest_for : Marks → Finding → Option ℕ
newest_for marks Nostrong = Some marks.newest
newest_for marks finding = None

-- an enctype is weak, and one of the entries has it
abbrev pub is_weak_among : List PlacedEntry → ℕ → Bool
is_weak_among xs etype = is_weak etype && list_any (λ x. x.1.enctype == etype) xs

-- the weak enctypes below 27 that the entries have
unfoldable pub weak_among : List PlacedEntry → WeakEtypes
weak_among xs = record { found = map (is_weak_among xs) (range_with_len 0 27) }

-- an entry with its place, and what is found about it
abbrev pub Marked : Type 0
Marked = PlacedEntry × Marks

-- the entries of a keytab, with what is found about each
abbrev pub all_marked : CheckAsked → KeytabState → List Marked
all_marked asked k = mapped_after (λ before x. (x, marks_of asked k before x)) [] (placed_entries k)

-- the entries of a keytab about which something is found, with what that is
abbrev pub reported : CheckAsked → KeytabState → List Marked
reported asked k = filter (λ m. has_some m.1.findings) (all_marked asked k)

-- how many entries have a finding that nothing has to be asked for
abbrev pub found_count : KeytabState → Finding → ℕ
found_count k finding = length (filter (λ b. b) (mapped_after (λ before x. is_found nothing_asked k before x finding) [] (placed_entries k)))
