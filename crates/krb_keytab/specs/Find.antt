-- Looking up an entry by name, version and enctype.
use Rattle.std.specs.Prelude.{ℕ, List, [], ◌∷◌, Bool, ◌&&◌, ◌||◌, ◌==◌, max, filter, find, is_some, Option, None, Some, option_map, Result, Ok, Err, if◌then◌else◌}
use Rattle.std.specs.List.{filter_map}
use Rattle.krb_wire.specs.Spelling.{Parts}
use Rattle.krb_wire.specs.Names.{have_same_name}
use Rattle.krb_walk.specs.declared.refusal.Code.{Code}
use Rattle.krb_walk.specs.declared.refusal.Code.TheVariants.{Damaged, NotFound, KvnoNotFound}
use Rattle.krb_walk.specs.Store.{Record, records, fault_of}
use Rattle.krb_keytab.specs.Entry.{EntryParts, entry_at}
use Rattle.krb_keytab.specs.Store.{KeytabState, store_of}

-- an entry with the place of its record
abbrev pub PlacedEntry : Type 0
PlacedEntry = ℕ × EntryParts

-- the entry of a record of a keytab, with the record's place
abbrev pub placed_entry : KeytabState → Record → Option PlacedEntry
placed_entry k r = option_map (λ e. (r.place, e)) (entry_at k.format r.bytes)

-- the entries of a keytab with their places, in file order
abbrev pub placed_entries : KeytabState → List PlacedEntry
placed_entries k = filter_map (placed_entry k) (records (store_of k))

-- an entry has the name that is looked up, and the enctype, unless 0 asks for any
abbrev pub is_match : Parts → ℕ → PlacedEntry → Bool
is_match name enctype x = (enctype == 0 || x.1.enctype == enctype) && have_same_name name x.1.principal

-- the greatest kvno of some entries
abbrev pub greatest : List PlacedEntry → ℕ
greatest [] = 0
greatest (x ∷ xs) = max x.1.version (greatest xs)

-- the kvno that is looked up among some entries: the one that is given, or for 0 the greatest
abbrev pub selected_version : ℕ → List PlacedEntry → ℕ
selected_version kvno xs = if kvno == 0 then greatest xs else kvno

-- an entry that was found, or that the kvno was not found
abbrev pub first_or_missing : Option PlacedEntry → Result PlacedEntry Code
first_or_missing None = Err KvnoNotFound
first_or_missing (Some x) = Ok x

-- the first of some entries with the kvno that is looked up; or that there is no entry, or none of that kvno
abbrev pub look_up_in : ℕ → List PlacedEntry → Result PlacedEntry Code
look_up_in kvno [] = Err NotFound
look_up_in kvno (x ∷ xs) = first_or_missing (find (λ y. y.1.version == selected_version kvno (x ∷ xs)) (x ∷ xs))

-- the look-up of an entry: of those with the name and the enctype, the first in file order with the kvno
abbrev pub look_up : KeytabState → Parts → ℕ → ℕ → Result PlacedEntry Code
look_up k name kvno enctype = look_up_in kvno (filter (is_match name enctype) (placed_entries k))

-- the result of looking up an entry, which a damaged keytab refuses
abbrev pub find_result : KeytabState → Parts → ℕ → ℕ → Result PlacedEntry Code
find_result k name kvno enctype = if is_some (fault_of (store_of k)) then Err Damaged else look_up k name kvno enctype
