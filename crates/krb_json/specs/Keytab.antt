-- A keytab as a JSON value, and as its text.
use Rattle.std.specs.Prelude.{ℕ, List, [], ◌∷◌, ◌++◌, map, codes, Bool, if◌then◌else◌}
use Rattle.json.specs.Json.{Json}
use Rattle.krb_wire.specs.Names.{name_text}
use Rattle.krb_wire.specs.Spelling.{version_byte}
use Rattle.krb_walk.specs.Store.{fault_of}
use Rattle.krb_keytab.specs.Find.{PlacedEntry, placed_entries}
use Rattle.krb_keytab.specs.Store.{KeytabState, store_of}
use Rattle.krb_json.specs.Escaped.{json_text}
use Rattle.krb_json.specs.Members.{Member, object_of, array_of, number_of, digits_of, text_member, etype_members, fault_value, file_members}

-- the key of an entry as JSON, if keys are shown
unfoldable pub key_members : Bool → List ℕ → List Member
key_members shows_keys key = if shows_keys then (codes "key_hex", digits_of key) ∷ [] else []

-- an entry's place, principal and kvno as JSON
unfoldable pub owner_members : PlacedEntry → List Member
owner_members x =
    (codes "place", number_of x.0)
    ∷ text_member (codes "principal") (name_text x.1.principal)
    ∷ (codes "kvno", number_of x.1.version)
    ∷ []

-- an entry of a keytab as JSON
unfoldable pub entry_value : Bool → PlacedEntry → Json
entry_value shows_keys x =
    object_of (
    owner_members x
    ++ (etype_members x.1.enctype ++ ((codes "timestamp", number_of x.1.timestamp) ∷ key_members shows_keys x.1.key))
    )

-- the entries of a keytab as JSON, in file order
abbrev pub entry_values : Bool → KeytabState → List Json
entry_values shows_keys k = map (entry_value shows_keys) (placed_entries k)

-- a keytab as JSON, with the name of its file
unfoldable pub keytab_value : List ℕ → Bool → KeytabState → Json
keytab_value file shows_keys k =
    object_of (
    file_members file (codes "keytab") (version_byte k.format)
    ++ ((codes "entries", array_of (entry_values shows_keys k)) ∷ (codes "fault", fault_value (fault_of (store_of k))) ∷ [])
    )

-- the line that klist --json prints of a keytab
abbrev pub keytab_json_text : List ℕ → Bool → KeytabState → List ℕ
keytab_json_text file shows_keys k = json_text (keytab_value file shows_keys k) ++ codes "\n"
