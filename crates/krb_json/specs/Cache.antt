-- A credential cache as a JSON value, and as its text.
use Rattle.std.specs.Prelude.{ℕ, ◌^◌, ◌==◌, ℤ, pos, negsuc, List, [], ◌∷◌, ◌++◌, length, codes, not, nat_lt, if◌then◌else◌, Option, None, Some, option_map, option_and_then, filter_map}
use Rattle.std.specs.Fmt.{signed_decimal}
use Rattle.json.specs.Json.{Json, null, boolean, number, string}
use Rattle.krb_wire.specs.Names.{name_text}
use Rattle.krb_wire.specs.Spelling.{Parts}
use Rattle.krb_walk.specs.Store.{fault_of}
use Rattle.krb_ccache.specs.declared.credential.times.Times.{Times}
use Rattle.krb_ccache.specs.Credential.{CredParts}
use Rattle.krb_ccache.specs.declared.ticket.TicketEncryption.{TicketEncryption}
use Rattle.krb_ccache.specs.declared.offset.Offset.{Offset}
use Rattle.krb_ccache.specs.Header.{offset_in}
use Rattle.krb_ccache.specs.Ticket.{ticket_encryption, ticket_server}
use Rattle.krb_ccache.specs.Config.{ConfigParts, config_name}
use Rattle.krb_ccache.specs.Store.{CacheState, PlacedCredential, version_byte, store_of, placed_credentials}
use Rattle.krb_text.specs.Etype.{etype_name_of}
use Rattle.krb_text.specs.Flags.{flag_letters_of}
use Rattle.krb_json.specs.declared.cache.Shown.{Shown}
use Rattle.krb_json.specs.declared.cache.Shown.TheVariants.{Tickets, Configs}
use Rattle.krb_json.specs.Escaped.{json_text}
use Rattle.krb_json.specs.Members.{Member, object_of, array_of, number_of, text_member, text_or_null, etype_members, fault_value, file_members}

-- a ticket's place, client and server
unfoldable pub party_members : PlacedCredential → List Member
party_members x =
    (codes "place", number_of x.0)
    ∷ text_member (codes "client") (name_text x.1.client)
    ∷ text_member (codes "server") (name_text x.1.server)
    ∷ []

-- the four times of a ticket, in seconds, as in the file
unfoldable pub time_members : Times → List Member
time_members t =
    (codes "authtime", number_of t.authtime)
    ∷ (codes "starttime", number_of t.starttime)
    ∷ (codes "endtime", number_of t.endtime)
    ∷ (codes "renew_till", number_of t.renew_till)
    ∷ []

-- the flags of a ticket, as letters and as a number
unfoldable pub flag_members : ℕ → List Member
flag_members flags = (codes "flags", string (flag_letters_of flags)) ∷ (codes "flags_value", number_of flags) ∷ []

-- the name of an enctype of 32 bits, if it has one
abbrev pub name_of_etype : ℤ → Option (List ℕ)
name_of_etype (pos n) = if nat_lt n (2 ^ 16) then etype_name_of n else None
name_of_etype (negsuc n) = None

-- an integer that may be missing
abbrev pub integer_or_null : Option ℤ → Json
integer_or_null None = null
integer_or_null (Some n) = number (signed_decimal n)

-- a text as a member, or null
abbrev pub text_or_null_member : List ℕ → Option (List ℕ) → Member
text_or_null_member name None = (name, null)
text_or_null_member name (Some text) = text_member name text

-- what a ticket itself has: its enctype, that one's name, its kvno and its server, each null if it is not there
unfoldable pub own_members : Option TicketEncryption → Option Parts → List Member
own_members encryption server =
    (codes "ticket_etype", integer_or_null (option_map (λ e. e.etype) encryption))
    ∷ (codes "ticket_etype_name", text_or_null (option_and_then (λ e. name_of_etype e.etype) encryption))
    ∷ (codes "ticket_kvno", integer_or_null (option_and_then (λ e. option_map pos e.kvno) encryption))
    ∷ text_or_null_member (codes "ticket_server") (option_map name_text server)
    ∷ []

-- the rest of a ticket: whether it is under another ticket's session key, how many addresses it has, its length, and what it itself has
unfoldable pub size_members : CredParts → List Member
size_members c =
    (codes "is_skey", boolean (not (c.is_skey == 0)))
    ∷ (codes "addresses", number_of (length c.addresses))
    ∷ (codes "ticket_length", number_of (length c.ticket))
    ∷ own_members (ticket_encryption c.ticket) (ticket_server c.ticket)

-- a ticket
unfoldable pub ticket_value : PlacedCredential → Json
ticket_value x =
    object_of (party_members x ++ (time_members x.1.times ++ (flag_members x.1.flags ++ (etype_members x.1.key.enctype ++ size_members x.1))))

-- a configuration entry as JSON: its place, key, principal and value
unfoldable pub config_value : ℕ → ConfigParts → List ℕ → Json
config_value place name value =
    object_of (
    (codes "place", number_of place)
    ∷ text_member (codes "key") name.key
    ∷ text_or_null_member (codes "principal") name.principal
    ∷ text_member (codes "value") value
    ∷ []
    )

-- a credential as JSON in the array of tickets, or in that of configuration entries, if it belongs there
abbrev pub shown_by : Shown → Option ConfigParts → PlacedCredential → Option Json
shown_by Tickets None x = Some (ticket_value x)
shown_by Configs (Some name) x = Some (config_value x.0 name x.1.ticket)
shown_by _ _ x = None

-- the live credentials in the array of tickets, or in that of configuration entries, in file order
abbrev pub shown_values : Shown → List PlacedCredential → List Json
shown_values shown xs = filter_map (λ x. shown_by shown (config_name x.1.server) x) xs

-- the tickets of a cache as JSON
abbrev pub ticket_values : List PlacedCredential → List Json
ticket_values xs = shown_values Tickets xs

-- the configuration entries of a cache as JSON
abbrev pub config_values : List PlacedCredential → List Json
config_values xs = shown_values Configs xs

-- the clock's offset from the KDC's, or null if the header has none
abbrev pub offset_value : Option Offset → Json
offset_value None = null
offset_value (Some o) =
    object_of ((codes "seconds", integer_or_null (Some o.seconds)) ∷ (codes "microseconds", integer_or_null (Some o.micros)) ∷ [])

-- what the JSON of a cache has before its tickets: file, kind, version, default principal and clock offset
unfoldable pub cache_members : List ℕ → CacheState → List Member
cache_members file k =
    file_members file (codes "ccache") (version_byte k.version)
    ++ (text_member (codes "default_principal") (name_text k.principal) ∷ (codes "offset", offset_value (offset_in k.header)) ∷ [])

-- a cache as JSON, with the name of its file
unfoldable pub cache_value : List ℕ → CacheState → Json
cache_value file k =
    object_of (
    cache_members file k
    ++ ((codes "tickets", array_of (ticket_values (placed_credentials k)))
    ∷ (codes "config", array_of (config_values (placed_credentials k)))
    ∷ (codes "fault", fault_value (fault_of (store_of k)))
    ∷ [])
    )

-- the line that klist --json prints of a cache
abbrev pub cache_json_text : List ℕ → CacheState → List ℕ
cache_json_text file k = json_text (cache_value file k) ++ codes "\n"
