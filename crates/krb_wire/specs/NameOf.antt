-- The name that a text parses as, or the fault of the text (MIT krb5_parse_name).
use Rattle.std.specs.Prelude.{ℕ, List, [], ◌∷◌, ◌++◌, map, Option, Some, None, option_map, unwrap_or, Result, Ok, Err, codes, Bool, true, false, ◌≡◌, ◌<◌, length}
use Rattle.std.specs.List.{filter_map, slice_split}
use Rattle.std.specs.Option.{option_or}
use Rattle.krb_wire.specs.declared.name_fault.NameFault.{NameFault}
use Rattle.krb_wire.specs.declared.name_fault.NameFault.TheVariants.{NoRealm, LoneBackslash, SecondAt, SlashInRealm, NoMemory}
use Rattle.krb_wire.specs.declared.atom.Atom.{Atom}
use Rattle.krb_wire.specs.declared.atom.Atom.TheVariants.{Byte, Slash, At, Lone}
use Rattle.krb_wire.specs.Spelling.{Parts}
use Rattle.krb_wire.specs.Atoms.{atoms, byte_of, is_slash, before_at, after_at}
use Rattle.krb_wire.specs.Names.{name_text}

-- the number of a fault
abbrev pub name_fault_number : NameFault → ℕ
name_fault_number NoRealm = 1
name_fault_number LoneBackslash = 2
name_fault_number SecondAt = 3
name_fault_number SlashInRealm = 4
name_fault_number NoMemory = 5

-- a fault in words
abbrev pub name_fault_phrase : NameFault → List ℕ
name_fault_phrase NoRealm = codes "no realm"
name_fault_phrase LoneBackslash = codes "a backslash at the end"
name_fault_phrase SecondAt = codes "a second @"
name_fault_phrase SlashInRealm = codes "a / in the realm"
name_fault_phrase NoMemory = codes "out of memory"

-- the fault of an atom before the `@`: a backslash at the end of the text
abbrev pub component_fault : Atom → Option NameFault
component_fault (Byte b) = None
component_fault Slash = None
component_fault At = None
component_fault Lone = Some LoneBackslash

-- the fault of an atom of the realm: a `/`, an `@`, or a backslash at the end of the text
abbrev pub realm_fault : Atom → Option NameFault
realm_fault (Byte b) = None
realm_fault Slash = Some SlashInRealm
realm_fault At = Some SecondAt
realm_fault Lone = Some LoneBackslash

-- the faults of a text's atoms, from left to right: before the first `@`, then after it
abbrev pub faults_of : List Atom → List NameFault
faults_of text = filter_map component_fault (before_at text) ++ filter_map realm_fault (unwrap_or (after_at text) [])

-- the leftmost fault of a text, if the text has one
abbrev pub first_fault : List NameFault → Option NameFault
first_fault [] = None
first_fault (fault ∷ others) = Some fault

-- the components of a name: the atoms before the `@`, split at each `/`
abbrev pub components_of : List Atom → List (List ℕ)
components_of text = map (map byte_of) (slice_split is_slash (before_at text))

-- the realm of a name: the text after the first `@`, or else the default realm
abbrev pub realm_of : List Atom → Option (List ℕ) → Option (List ℕ)
realm_of text default_realm = option_or (option_map (map byte_of) (after_at text)) default_realm

-- the leftmost fault of a text, or `NoRealm` without a realm, or else the name, of type 1 (KRB5_NT_PRINCIPAL)
abbrev pub name_or_fault : Option NameFault → Option (List ℕ) → List (List ℕ) → Result Parts NameFault
name_or_fault (Some fault) realm components = Err fault
name_or_fault None None components = Err NoRealm
name_or_fault None (Some realm) components = Ok (record { name_type = 1; realm = realm; components = components })

-- the name that a text parses as, with a default realm if one is given, or the fault of the text
abbrev pub name_of : List ℕ → Option (List ℕ) → Result Parts NameFault
name_of text default_realm = name_or_fault (first_fault (faults_of (atoms text))) (realm_of (atoms text) default_realm) (components_of (atoms text))

-- ---- the first component of a text, and the faults in the rest of a text, for each step of the parser

-- the bytes before the first `/` or `@`, or all of them if there is none
abbrev pub first_component : List Atom → List ℕ
first_component [] = []
first_component (Byte b ∷ rest) = b ∷ first_component rest
first_component (Slash ∷ rest) = []
first_component (At ∷ rest) = []
first_component (Lone ∷ rest) = 92 ∷ first_component rest

-- the atoms after that separator, if it is a `/`
abbrev pub after_first : List Atom → Option (List Atom)
after_first [] = None
after_first (Byte b ∷ rest) = after_first rest
after_first (Slash ∷ rest) = Some rest
after_first (At ∷ rest) = None
after_first (Lone ∷ rest) = after_first rest

-- the faults in the atoms that follow, after an `@` or before any
abbrev pub faults_from : Bool → List Atom → List NameFault
faults_from false text = faults_of text
faults_from true text = filter_map realm_fault text

-- the text of a name with a component parses as that name again, with type 1, whatever the default realm is
abbrev pub TextsNameTheirNames : Type 0
TextsNameTheirNames = (p : Parts) (default_realm : Option (List ℕ)) → 0 < length p.components
    → name_of (name_text p) default_realm ≡ Ok (record p { name_type = 1 })
