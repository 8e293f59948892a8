-- The members of the objects.
use Rattle.std.specs.Prelude.{ℕ, List, [], ◌∷◌, ◌++◌, codes, decimal, if◌then◌else◌, Option, None, Some}
use Rattle.std.specs.Str.{is_utf8}
use Rattle.hex.specs.Hex.{encode_lower}
use Rattle.json.specs.Json.{Json, null, number, string, array, object, Members, no_members, member}
use Rattle.json.specs.Value.{items_of}
use Rattle.krb_walk.specs.declared.fault.Fault.{Fault}
use Rattle.krb_walk.specs.Phrases.{fault_number}
use Rattle.krb_text.specs.Etype.{etype_name_of}
use Rattle.krb_json.specs.declared.put.Label.{Label}
use Rattle.krb_json.specs.declared.put.Label.TheVariants.{Principal, DefaultPrincipal, Client, Server, TicketServer, Key, Value, Error, Name}

-- a member of a JSON object: its name and its value
abbrev pub Member : Type 0
Member = List ℕ × Json

-- members as a JSON object has them
abbrev pub members_of : List Member → Members
members_of [] = no_members
members_of (m ∷ ms) = member m.0 m.1 (members_of ms)

-- the JSON object of these members
abbrev pub object_of : List Member → Json
object_of ms = object (members_of ms)

-- the JSON array of these values
abbrev pub array_of : List Json → Json
array_of vs = array (items_of vs)

-- a number in decimal
abbrev pub number_of : ℕ → Json
number_of n = number (decimal n)

-- bytes in lower-case hexadecimal
abbrev pub digits_of : List ℕ → Json
digits_of bytes = string (encode_lower bytes)

-- a text as a member: a string if it is UTF-8, and otherwise in hexadecimal, with `_hex` after the member's name
unfoldable pub text_member : List ℕ → List ℕ → Member
text_member name text = if is_utf8 text then (name, string text) else (name ++ codes "_hex", digits_of text)

-- a text as a string, or null
abbrev pub text_or_null : Option (List ℕ) → Json
text_or_null None = null
text_or_null (Some text) = string text

-- an enctype as JSON: its number, and its name or null
unfoldable pub etype_members : ℕ → List Member
etype_members etype = (codes "etype", number_of etype) ∷ (codes "etype_name", text_or_null (etype_name_of etype)) ∷ []

-- the fault of a damaged file as JSON: its kind and its place, or null
abbrev pub fault_value : Option Fault → Json
fault_value None = null
fault_value (Some fault) = object_of ((codes "kind", number_of (fault_number fault.kind)) ∷ (codes "place", number_of fault.place) ∷ [])

-- a number as a member, if it is given
abbrev pub optional : List ℕ → Option ℕ → List Member
optional name None = []
optional name (Some n) = (name, number_of n) ∷ []

-- the first members of a file's JSON: its name, its kind and its version
unfoldable pub file_members : List ℕ → List ℕ → ℕ → List Member
file_members file kind version = (codes "file", string file) ∷ (codes "kind", string kind) ∷ (codes "version", number_of version) ∷ []

-- ---- the names of the members that hold strings from a file

-- the name of the member if the string is UTF-8
abbrev pub label_text : Label → List ℕ
label_text Principal = codes "principal"
label_text DefaultPrincipal = codes "default_principal"
label_text Client = codes "client"
label_text Server = codes "server"
label_text TicketServer = codes "ticket_server"
label_text Key = codes "key"
label_text Value = codes "value"
label_text Error = codes "error"
label_text Name = codes "name"
