-- Laws of the definitions.
use Rattle.std.specs.Prelude.{◌≡◌, ◌↔◌, ℕ, List, [], ◌∷◌, ◌++◌, map, Bool, false, true, ◌==◌, Some, Result, Ok, Err}
use Rattle.std.specs.List.{AllByRecursion, list_any}
use Rattle.std.specs.List.Sorted.{IsPermutation}
use Rattle.krb_walk.specs.declared.event.Event.{Event}
use Rattle.krb_walk.specs.declared.event.Event.TheVariants.{Put, Cut}
use Rattle.krb_walk.specs.declared.refusal.Code.{Code}
use Rattle.krb_walk.specs.History.{state_after}
use Rattle.krb_keytab.specs.Entry.{EntryParts}
use Rattle.krb_keytab.specs.Find.{PlacedEntry, placed_entries}
use Rattle.krb_keytab.specs.Form.{IsEntry}
use Rattle.krb_keytab.specs.Rewrite.{keytab_rules}
use Rattle.krb_keytab.specs.Store.{KeytabState, entry_at_place}
use Rattle.krb_names.specs.Twins.{are_twins, are_same}
use Rattle.krb_copy.specs.Diff.{Difference, Both, Ours, Theirs, diff_text, differences}
use Rattle.krb_copy.specs.Copying.{Held, Run, Step, There, Clash, Copy, copy_run, has_lines, run_after, run_start, step_of}

-- the keytab has an entry with name, version, enctype and key of this one
abbrev pub Has : KeytabState → EntryParts → Type 0
Has k x = (place : ℕ) × (e : EntryParts) × (entry_at_place k place ≡ Some e) × (are_same x e ≡ true)

-- each number of these entries fits its type
abbrev pub AreEntries : List PlacedEntry → Type 0
AreEntries asked = AllByRecursion (λ x. IsEntry x.1) asked

-- after a run in which none clashes, the keytab has each entry asked for
abbrev pub HasEachAsked : Type 0
HasEachAsked = (replace : Bool) (asked : List PlacedEntry) (k : KeytabState) (run : Run) → AreEntries asked → copy_run replace asked k ≡ Ok run → (has_lines run.clashes) ≡ false → AllByRecursion (λ x. Has run.keytab x.1) asked

-- a second run of the same entries reports nothing and changes nothing
abbrev pub SecondDoesNothing : Type 0
SecondDoesNothing = (replace again : Bool) (asked : List PlacedEntry) (k : KeytabState) (run : Run) → AreEntries asked → copy_run replace asked k ≡ Ok run → (has_lines run.clashes) ≡ false
    → (second : Run) × (copy_run again asked run.keytab ≡ Ok second) × (second.keytab ≡ run.keytab) × (second.text ≡ []) × ((has_lines second.clashes) ≡ false)

-- an entry that is a twin of none of those asked for stays where it is
abbrev pub OthersStay : Type 0
OthersStay = (replace : Bool) (asked : List PlacedEntry) (k : KeytabState) (run : Run) → AreEntries asked → copy_run replace asked k ≡ Ok run
    → (place : ℕ) (e : EntryParts) → entry_at_place k place ≡ Some e → AllByRecursion (λ x. are_twins x.1 e ≡ false) asked → entry_at_place run.keytab place ≡ Some e

-- a run that reports nothing has changed nothing
abbrev pub ChangesAreReported : Type 0
ChangesAreReported = (replace : Bool) (asked : List PlacedEntry) (k : KeytabState) (run : Run) → copy_run replace asked k ≡ Ok run → run.text ≡ [] → run.keytab ≡ k

-- without replacing, each entry stays where it is
abbrev pub AllStay : Type 0
AllStay = (asked : List PlacedEntry) (k : KeytabState) (run : Run) → copy_run false asked k ≡ Ok run → (place : ℕ) (e : EntryParts) → entry_at_place k place ≡ Some e → entry_at_place run.keytab place ≡ Some e

-- the removals and the addition of a step
abbrev pub changes_of : EntryParts → Step → List (Event EntryParts)
changes_of x There = []
changes_of x (Clash twin) = []
changes_of x (Copy places) = map Cut places ++ Put x ∷ []

-- those of a step and of what follows, unless its addition is refused
abbrev pub changes_on : (Run → List (Event EntryParts)) → List (Event EntryParts) → Result Run Code → List (Event EntryParts)
changes_on others changes (Ok next) = changes ++ others next
changes_on others changes (Err code) = []

-- those of a run over more entries asked for, in order
abbrev pub changes_over : Bool → List PlacedEntry → Run → List (Event EntryParts)
changes_over replace [] run = []
changes_over replace (x ∷ xs) run =
    changes_on (changes_over replace xs) (changes_of x.1 (step_of replace run.before run.held x.1)) (run_after run x (step_of replace run.before run.held x.1))

-- a run is the history of its removals and additions
abbrev pub AreHistories : Type 0
AreHistories = (replace : Bool) (asked : List PlacedEntry) (k : KeytabState) (run : Run) → copy_run replace asked k ≡ Ok run
    → (state_after keytab_rules (record { store = k; cursors = [] }) (changes_over replace asked (run_start k))).store ≡ run.keytab

-- an entry that a run has is in the keytab, at its place
abbrev pub IsInPlace : KeytabState → Held → Type 0
IsInPlace k h = (e : EntryParts) × (entry_at_place k h.place ≡ Some e) × (are_same h.entry e ≡ true)

-- `held` lists just the keytab's entries, at their places
abbrev pub GoesByItsEntries : Type 0
GoesByItsEntries = (replace : Bool) (asked : List PlacedEntry) (k : KeytabState) (run : Run) → AreEntries asked → copy_run replace asked k ≡ Ok run
    → AllByRecursion (IsInPlace run.keytab) run.held × ((place : ℕ) (e : EntryParts) → entry_at_place run.keytab place ≡ Some e → list_any (λ h. h.place == place) run.held ≡ true)

-- each entry of the keytab after a run has name, version, enctype and key of one that was there, or of one asked for
abbrev pub NothingElse : Type 0
NothingElse = (replace : Bool) (asked : List PlacedEntry) (k : KeytabState) (run : Run) → AreEntries asked → copy_run replace asked k ≡ Ok run
    → (place : ℕ) (e : EntryParts) → entry_at_place run.keytab place ≡ Some e → list_any (λ x. are_same x.1 e) (placed_entries k ++ asked) ≡ true

-- ---- what two keytabs do not share

-- a run that copies `asked` into a keytab reports nothing
abbrev pub ReportsNothing : Bool → List PlacedEntry → KeytabState → Type 0
ReportsNothing replace asked k = (run : Run) × (copy_run replace asked k ≡ Ok run) × (run.text ≡ [])

-- two keytabs have the same keys iff copying each into the other reports nothing
abbrev pub NoDifference : Type 0
NoDifference = (replace : Bool) (j k : KeytabState) → (diff_text (placed_entries j) (placed_entries k) ≡ []) ↔ (ReportsNothing replace (placed_entries j) k × ReportsNothing replace (placed_entries k) j)

-- a difference the other way round
abbrev pub swapped : Difference → Difference
swapped (Ours x) = Theirs x
swapped (Both x y) = Both y x
swapped (Theirs y) = Ours y

-- the differences the other way round are the same ones, in another order
abbrev pub AreMirrored : Type 0
AreMirrored = (xs ys : List PlacedEntry) → IsPermutation (map swapped (differences xs ys)) (differences ys xs)
