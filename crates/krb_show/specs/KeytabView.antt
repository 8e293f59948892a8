-- A keytab as it is shown to people: a heading, and a table with a line for each name and version.
use Rattle.std.specs.Prelude.{ℕ, ◌-◌, ◌==◌, max, List, [], ◌∷◌, ◌++◌, length, map, take, filter, Bool, true, false, not, codes, decimal, Option, unwrap_or, if◌then◌else◌}
use Rattle.std.specs.List.{fold, list_any}
use Rattle.std.specs.BTreeMap.{insert_entry, is_at}
use Rattle.std.specs.Map.{lookup}
use Rattle.std.specs.Ordering.{bool_cmp, nat_cmp, ordering_then}
use Rattle.std.specs.declared.cmp.Ordering.{Ordering}
use Rattle.std.specs.declared.cmp.Reverse.{Reverse}
use Rattle.krb_wire.specs.Names.{name_text}
use Rattle.krb_wire.specs.Spelling.{Parts}
use Rattle.krb_walk.specs.Store.{fault_of}
use Rattle.krb_keytab.specs.Entry.{EntryParts}
use Rattle.krb_keytab.specs.Find.{PlacedEntry, placed_entries}
use Rattle.krb_keytab.specs.Store.{KeytabState, store_of}
use Rattle.krb_text.specs.FaultLine.{fault_line}
use Rattle.krb_audit.specs.Newest.{is_old}
use Rattle.krb_audit.specs.Rows.{first_number}
use Rattle.krb_audit.specs.Tally.{tally_of}
use Rattle.krb_audit.specs.declared.tally.Tally.{Tally}
use Rattle.krb_show.specs.Ago.{time_cell}
use Rattle.krb_show.specs.Columns.{counted, table}
use Rattle.krb_show.specs.EtypeNames.{etype_cell}
use Rattle.krb_show.specs.Heading.{count_note, mode_note}

-- ---- the lines

-- the place of a line in show's table: the number of its name's first entry, whether its kvno is old, and the kvno
abbrev pub LineKey : Type 0
LineKey = ℕ × Bool × Reverse ℕ

-- the order of lines in show's table: by the first entries of names, of a name the newest kvno first, and then kvnos falling
abbrev pub line_cmp : LineKey → LineKey → Ordering
line_cmp k l = ordering_then (ordering_then (nat_cmp k.0 l.0) (bool_cmp k.1 l.1)) (nat_cmp l.2.0 k.2.0)

-- the line of an entry among all
abbrev pub line_key : List PlacedEntry → EntryParts → LineKey
line_key all e = (unwrap_or (first_number e.principal all) 0, is_old all e, record { 0 = e.version })

-- the entries of a name and a kvno: the name, the latest time, and the enctypes in order
pub record LineParts : Type 0 where
  pub principal : Parts
  pub added : ℕ
  pub etypes : List ℕ

-- the line of a name, still without entries
abbrev pub begun : Parts → LineParts
begun principal = record { principal = principal; added = 0; etypes = [] }

-- a line of show's table with the time and the enctype of one entry more
abbrev pub grown : LineParts → ℕ → ℕ → LineParts
grown l time etype = record { principal = l.principal; added = max l.added time; etypes = l.etypes ++ etype ∷ [] }

-- a line of show's table, or a new one, with one entry more
abbrev pub with_entry : Option LineParts → EntryParts → LineParts
with_entry line e = grown (unwrap_or line (begun e.principal)) e.timestamp e.enctype

-- the lines of show's table with one entry more, in its line
abbrev pub put_entry : LineKey → EntryParts → List (LineKey × LineParts) → List (LineKey × LineParts)
put_entry key e lines = insert_entry line_cmp lines key (with_entry (lookup (is_at (line_cmp key)) lines) e)

-- the lines of show's table so far, and those of the entries that follow; which kvnos are old is by all entries
abbrev pub lines_from : List PlacedEntry → List (LineKey × LineParts) → List PlacedEntry → List (LineKey × LineParts)
lines_from all lines [] = lines
lines_from all lines (x ∷ xs) = lines_from all (put_entry (line_key all x.1) x.1 lines) xs

-- the lines of entries, in order
abbrev pub lines_of : List PlacedEntry → List (LineKey × LineParts)
lines_of xs = lines_from xs [] xs

-- ---- the cells of a line

-- numbers with one number more, unless it is already one of them
abbrev pub with_number : List ℕ → ℕ → List ℕ
with_number ns n = if list_any (λ m. m == n) ns then ns else ns ++ n ∷ []

-- numbers, each once, in the order in which they first come
unfoldable pub distinct : List ℕ → List ℕ
distinct ns = fold with_number [] ns

-- enctypes in a cell, with blanks between them
abbrev pub spaced : Bool → List ℕ → List ℕ
spaced first [] = []
spaced first (n ∷ ns) = (if first then [] else codes " ") ++ (etype_cell n ++ spaced false ns)

-- how many types more than are shown
abbrev pub more_types : ℕ → List ℕ
more_types n = if n == 0 then [] else codes " and " ++ (decimal n ++ codes " more")

-- the enctypes of a line of show's table: at most eight, how many there are more, and `old` for an old kvno
unfoldable pub keys_cell : Bool → List ℕ → List ℕ
keys_cell is_old etypes =
    spaced true (take 8 (distinct etypes))
    ++ (more_types (length (distinct etypes) - 8) ++ (if is_old then codes " old" else []))

-- the cells of a line of show's table: its kvno, time, enctypes and name
abbrev pub key_row : ℕ → LineKey × LineParts → List (List ℕ)
key_row now x =
    decimal x.0.2.0 ∷ time_cell now x.1.added ∷ keys_cell x.0.1 x.1.etypes ∷ name_text x.1.principal ∷ []

-- the titles of the columns
abbrev pub key_titles : List (List ℕ)
key_titles = codes "KVNO" ∷ codes "ADDED" ∷ codes "KEYS" ∷ codes "PRINCIPAL" ∷ []

-- ---- the whole

-- the number of names in show's table: each has one line of its newest kvno
abbrev pub name_count : List (LineKey × LineParts) → ℕ
name_count lines = length (filter (λ x. not x.0.1) lines)

-- the heading begins with the file's name, the number of keys, and the number of names
abbrev pub keytab_title : List ℕ → ℕ → ℕ → List ℕ
keytab_title name keys names =
    name ++ (codes ": keytab, " ++ (counted keys (codes "key") ++ (codes " of " ++ counted names (codes "principal"))))

-- how many names have weak keys alone, unless none has
abbrev pub weak_names_note : ℕ → List ℕ
weak_names_note n = if n == 0 then [] else codes ", " ++ (counted n (codes "principal") ++ codes " with weak keys alone!")

-- what is said of a keytab: how many keys are weak, and old, how many names have weak keys alone, and its file's mode
abbrev pub keytab_notes : Tally → Option ℕ → List ℕ
keytab_notes t mode =
    count_note t.weak_entries (codes " weak!") ++ (count_note t.old_entries (codes " old") ++ (weak_names_note t.weak_names ++ mode_note mode))

-- the heading
unfoldable pub keytab_heading : List ℕ → ℕ → ℕ → Tally → Option ℕ → List ℕ
keytab_heading name keys names tally mode = keytab_title name keys names ++ (keytab_notes tally mode ++ codes "\n")

-- what show prints of a keytab at a second, with the name and the mode of its file
abbrev pub keytab_view : List ℕ → ℕ → Option ℕ → KeytabState → List ℕ
keytab_view name now mode k =
    let lines = lines_of (placed_entries k) in
    keytab_heading name (length (placed_entries k)) (name_count lines) (tally_of k) mode ++ (table key_titles (map (key_row now) lines)
    ++ fault_line (fault_of (store_of k)))
