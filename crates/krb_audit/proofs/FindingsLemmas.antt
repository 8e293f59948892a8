-- What is found when one more entry is checked.
use Rattle.krb_audit.proofs.Cited.{◌≡◌, ◌≤◌, arith, Bool, cond, List, [], ◌∷◌, ◌++◌, length, Option, refl, sym, ap, subst, ◌∙◌, append_assoc, append-nil, ◌||◌, filter, list_any, PlacedEntry, placed_entries, filter_map, list_any-append, cells_of, entry_in, ends_mit, mapped_after, CheckAsked, marks_of, KeytabState, entries_of_cells, IsBefore, Marked, reported, has_some}
use Rattle.krb_keytab.specs.Changes.{placed_cells}
use Rattle.krb_keytab.proofs.ImageChanges.{placed_len}
use Rattle.krb_audit.specs.declared.findings.Before.{Before}
use Rattle.krb_audit.specs.declared.marks.Marks.{Marks}

-- those of some entries about which something is found
abbrev pub reported_of : List Marked → List Marked
reported_of ms = filter (λ m. has_some m.1.findings) ms

-- some entries are checked, and others are still to come
pub record IsCheckedUpTo {A : Type 0} (asked : CheckAsked) (k : KeytabState) (rest : List PlacedEntry) (b : Before A) (entries : List Marked) : Type 0 where
  pub before : List PlacedEntry
  pub known : IsBefore k asked.wanted before rest b
  pub entries_are : entries ++ reported_of (mapped_after (λ ys x. (x, marks_of asked k ys x)) before rest) ≡ reported asked k

listed_if : (b : Bool) (m : Marked) (entries after : List Marked) → cond b (entries ++ m ∷ []) entries ++ after ≡ entries ++ cond b (m ∷ after) after
listed_if b m entries after = grind (arith, append_assoc entries (m ∷ []) after)

-- the next entry is checked
pub one_checked : {A : Type 0} (asked : CheckAsked) (k : KeytabState) (x : PlacedEntry) (rest : List PlacedEntry) (b c : Before A) (marks : Marks) (entries entries' : List Marked) (is_found : Bool) → IsCheckedUpTo asked k (x ∷ rest) b entries
    → ((before : List PlacedEntry) → IsBefore k asked.wanted before (x ∷ rest) b → (marks ≡ marks_of asked k before x) × IsBefore k asked.wanted (before ++ x ∷ []) rest c)
    → has_some marks.findings ≡ is_found → entries' ≡ cond is_found (entries ++ (x, marks) ∷ []) entries → IsCheckedUpTo asked k rest c entries'
one_checked asked k x rest b c marks entries entries' is_found h gives found listed = search (arith, listed_if)

-- when no entry is left, all are before
pub all_before : {A : Type 0} (asked : CheckAsked) (k : KeytabState) (b : Before A) (entries : List Marked) → IsCheckedUpTo asked k [] b entries → IsBefore k asked.wanted (placed_entries k) [] b
all_before asked k b entries h = subst (λ (xs : List PlacedEntry). IsBefore k asked.wanted xs [] b) (sym (h.known.all ∙ append-nil h.before)) h.known

-- whether MIT's programs stop before one of these entries or the next
pub ended_here : (before : List PlacedEntry) (x : PlacedEntry) (had : Bool) → had ≡ list_any (λ y. ends_mit y.1) before → (had || ends_mit x.1) ≡ list_any (λ y. ends_mit y.1) (before ++ x ∷ [])
ended_here before x had is = grind (arith, is, list_any-append (λ y. ends_mit y.1) before (x ∷ []))

-- ---- how many entries there are

mapped_few : {X Y : Type 0} (h : X → Option Y) (xs : List X) → length (filter_map h xs) ≤ length xs
mapped_few h [] = omega arith
mapped_few h (x ∷ xs) = grind (arith, mapped_few h xs)

pub entries_few : (k : KeytabState) → length (placed_entries k) ≤ length k.contents.cells
entries_few k =
    omega (arith, ap length (entries_of_cells k (cells_of k) refl), mapped_few (entry_in k.format) (placed_cells 2 k.contents.cells), placed_len 2 k.contents.cells)
