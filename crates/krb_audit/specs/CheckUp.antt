-- What a check of a keytab finds.
use Rattle.std.specs.Prelude.{ℕ, bit_and, List, [], ◌∷◌, ◌++◌, length, filter, fold, sum_by, Bool, true, false, not, ◌&&◌, ◌||◌, ◌==◌, if◌then◌else◌, nat_lt, Option, None, Some, is_some, is_none}
use Rattle.std.specs.List.{list_any}
use Rattle.std.specs.Str.{bytes_eq}
use Rattle.krb_wire.specs.Names.{name_text}
use Rattle.krb_walk.specs.declared.fault.Fault.{Fault}
use Rattle.krb_walk.specs.Store.{fault_of}
use Rattle.krb_keytab.specs.Cells.{Cell, Live, Free, size}
use Rattle.krb_keytab.specs.Find.{PlacedEntry, placed_entries}
use Rattle.krb_keytab.specs.Store.{KeytabState, store_of}
use Rattle.krb_audit.specs.declared.counts.Counts.{Counts}
use Rattle.krb_findings.specs.declared.finding.Finding.{Finding}
use Rattle.krb_findings.specs.declared.finding.Finding.TheVariants.{Mode, Missing, Empty}
use Rattle.krb_findings.specs.declared.finding_set.FindingSet.{FindingSet}
use Rattle.krb_findings.specs.declared.weak_etypes.WeakEtypes.{WeakEtypes}
use Rattle.krb_audit.specs.Findings.{CheckAsked, Marked, reported, weak_among}
use Rattle.krb_findings.specs.Table.{all_findings, has_some, joined, none, row_of, with_if, without}

-- ---- the mode

-- group or others may read or write a file of this mode
abbrev pub is_open : ℕ → Bool
is_open mode = not (bit_and mode 0o66 == 0)

-- others may read or write a file of this mode
abbrev pub is_open_to_all : ℕ → Bool
is_open_to_all mode = not (bit_and mode 0o6 == 0)

-- a file is plain and has a mode of which a rule holds
abbrev pub has_mode : (ℕ → Bool) → Option ℕ → Bool
has_mode holds None = false
has_mode holds (Some mode) = holds mode

-- ---- names that have to be there

-- the name of an entry prints as a text
abbrev pub prints_as : List ℕ → PlacedEntry → Bool
prints_as text x = bytes_eq (name_text x.1.principal) text

-- texts and one more text, unless it is already one of them
abbrev pub added_once : List (List ℕ) → List ℕ → List (List ℕ)
added_once texts text = if list_any (bytes_eq text) texts then texts else texts ++ text ∷ []

-- the names that are wanted, as texts, and that no entry has, each once
abbrev pub missing_among : List (List ℕ) → List PlacedEntry → List (List ℕ)
missing_among wanted xs = filter (λ text. not (list_any (prints_as text) xs)) (fold added_once [] wanted)

-- ---- all of it

-- a cell is a hole
abbrev pub is_hole : Cell → Bool
is_hole (Live b) = false
is_hole (Free b) = true

-- the holes among cells
abbrev pub holes : List Cell → List Cell
holes cells = filter is_hole cells

-- the counts of a keytab: its entries, the bytes of its holes, and its holes
abbrev pub counts_of : KeytabState → Counts
counts_of k = record { entries = length (placed_entries k); free = sum_by size (holes k.contents.cells); holes = length (holes k.contents.cells) }

-- a keytab has no entry and no fault
abbrev pub is_empty : KeytabState → Bool
is_empty k = length (placed_entries k) == 0 && is_none (fault_of (store_of k))

-- what a check finds in a keytab: its mode, the entries about which or about whose names something is found, whether it is empty, the names that are missing, its fault, its counts, and its weak enctypes
pub record CheckParts : Type 0 where
  pub mode : Option ℕ
  pub entries : List Marked
  pub is_empty : Bool
  pub missing : List (List ℕ)
  pub fault : Option Fault
  pub counts : Counts
  pub weak_etypes : WeakEtypes

-- what a check finds in a keytab, by the mode of its file and what is asked
abbrev pub checked : Option ℕ → CheckAsked → KeytabState → CheckParts
checked mode asked k = record {
  mode = mode;
  entries = reported asked k;
  is_empty = is_empty k;
  missing = missing_among asked.wanted (placed_entries k);
  fault = fault_of (store_of k);
  counts = counts_of k;
  weak_etypes = weak_among (placed_entries k);
}

-- the findings about some entries, together
abbrev pub about_entries : List Marked → FindingSet
about_entries entries = fold (λ s m. joined s m.1.findings) none entries

-- the findings of a check: those about entries and those about the file
abbrev pub findings_of : CheckParts → FindingSet
findings_of c =
    with_if (nat_lt 0 (length c.missing)) Missing (with_if c.is_empty Empty (with_if (has_mode is_open c.mode) Mode (about_entries c.entries)))

-- a finding counts for the status: an open mode only if others may read or write the file
abbrev pub counts_at : Option ℕ → Finding → Bool
counts_at mode Mode = has_mode is_open_to_all mode
counts_at mode finding = (row_of finding).counts

-- the findings that do not count for the status, by the mode of the file and what is allowed
abbrev pub uncounted : Option ℕ → FindingSet → FindingSet
uncounted mode allowed = fold (λ s f. with_if (not (counts_at mode f)) f s) allowed all_findings

-- a check has something wrong: a finding that counts for the status, or the fault of a damaged keytab
abbrev pub is_wrong : FindingSet → CheckParts → Bool
is_wrong allowed c = has_some (without (findings_of c) (uncounted c.mode allowed)) || is_some c.fault
