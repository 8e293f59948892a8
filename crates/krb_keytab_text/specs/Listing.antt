-- The listings of a keytab and of slots, and their lines (MIT klist).
use Rattle.std.specs.Prelude.{ℕ, List, [], ◌++◌, codes, Bool, if◌then◌else◌, ◌∷◌, decimal}
use Rattle.std.specs.List.{flat_map, enumerate_from}
use Rattle.krb_wire.specs.Names.{name_text}
use Rattle.krb_walk.specs.Store.{fault_of}
use Rattle.krb_keytab.specs.Store.{KeytabState, store_of, entries}
use Rattle.krb_keytab.specs.Entry.{EntryParts}
use Rattle.krb_keytab.specs.Find.{PlacedEntry}
use Rattle.krb_keytab_text.specs.declared.columns.KtColumns.{KtColumns}
use Rattle.krb_text.specs.FaultLine.{fault_line}
use Rattle.krb_text.specs.Numbers.{right_in_4}
use Rattle.krb_text.specs.Etype.{etype_text_of, key_text_of}
use Rattle.krb_text.specs.Calendar.{time_text_of}

-- ---- lines

-- the time column of an entry's line: the time and a space, if times are shown
abbrev pub time_column : Bool → ℕ → List ℕ
time_column is_shown seconds = if is_shown then time_text_of seconds ++ 32 ∷ [] else []

-- the enctype column of an entry's line: the enctype in parentheses, if enctypes are shown
abbrev pub etype_column : Bool → ℕ → List ℕ
etype_column is_shown etype = if is_shown then codes " (" ++ (etype_text_of etype ++ 41 ∷ []) else []

-- the key column of an entry's line: the key in parentheses, if keys are shown
abbrev pub key_column : Bool → List ℕ → List ℕ
key_column is_shown key = if is_shown then codes " (" ++ (key_text_of key ++ 41 ∷ []) else []

-- an entry's line of a listing: its kvno, right-aligned in four columns, a space, its time, principal, enctype and key
abbrev pub entry_line : KtColumns → EntryParts → List ℕ
entry_line columns e =
    (right_in_4 e.version ++ 32 ∷ [])
    ++ (time_column columns.times e.timestamp
    ++ (name_text e.principal ++ (etype_column columns.etypes e.enctype ++ (key_column columns.keys e.key ++ 10 ∷ []))))

-- the end of an entry's line after its place: its kvno, its enctype as a number, and its principal
abbrev pub entry_tail : EntryParts → List ℕ
entry_tail e =
    codes " kvno " ++ (decimal e.version ++ (codes " etype " ++ (decimal e.enctype ++ (codes " " ++ (name_text e.principal ++ codes "\n")))))

-- ---- listings

-- the line of column titles in the heading of a keytab's listing
abbrev pub titles : Bool → List ℕ
titles times = if times then codes "KVNO Timestamp            Principal\n" else codes "KVNO Principal\n"

-- the line of dashes below the column titles
abbrev pub underlines : Bool → List ℕ
underlines times = if times then codes "---- -------------------- ---------\n" else codes "---- ---------\n"

-- the heading of a keytab's listing: the file's name, column titles and dashes
abbrev pub heading : List ℕ → Bool → List ℕ
heading name times = codes "Keytab name: FILE:" ++ (name ++ (codes "\n" ++ (titles times ++ underlines times)))

-- the lines of all entries, in file order
abbrev pub entry_lines : KtColumns → KeytabState → List ℕ
entry_lines columns k = flat_map (entry_line columns) (entries k)

-- the listing of a keytab: the heading with the name of the file, the entries' lines, and the fault if there is one
abbrev pub list_text : KtColumns → List ℕ → KeytabState → List ℕ
list_text columns name k = heading name columns.times ++ (entry_lines columns k ++ fault_line (fault_of (store_of k)))

-- ---- the listing of ktutil's slots

-- the heading of a listing of slots: column titles and dashes
abbrev pub slot_heading : Bool → List ℕ
slot_heading times = codes "slot " ++ (titles times ++ (codes "---- " ++ underlines times))

-- the line of a slot: its number right-aligned in four columns, a space, and the line of its entry
abbrev pub slot_line : KtColumns → ℕ × EntryParts → List ℕ
slot_line columns slot = (right_in_4 slot.0 ++ 32 ∷ []) ++ entry_line columns slot.1

-- the lines of entries in slots from n on
abbrev pub slot_lines : KtColumns → ℕ → List EntryParts → List ℕ
slot_lines columns n entries = flat_map (slot_line columns) (enumerate_from n entries)

-- the listing of entries in slots, which are numbered from 1
abbrev pub slot_text : KtColumns → List EntryParts → List ℕ
slot_text columns entries = slot_heading columns.times ++ slot_lines columns 1 entries

-- ---- lines of entries and their places

-- the line of an entry with its place: a label, the place, the kvno, the enctype and the principal
abbrev pub placed_line : List ℕ → PlacedEntry → List ℕ
placed_line label x = label ++ (decimal x.0 ++ entry_tail x.1)

-- the line that reports an entry found
abbrev pub found_line : PlacedEntry → List ℕ
found_line x = placed_line (codes "found ") x

-- the line that reports an entry removed
abbrev pub removed_line : PlacedEntry → List ℕ
removed_line x = placed_line (codes "removed ") x
