-- A credential cache as it is shown to people: a heading, and a table of its tickets.
use Rattle.std.specs.Prelude.{ℕ, ◌^◌, ◌==◌, nat_le, nat_lt, bit_and, pos, List, [], ◌∷◌, ◌++◌, length, map, filter, Bool, not, ◌&&◌, ◌||◌, codes, Option, None, Some, unwrap_or, if◌then◌else◌}
use Rattle.std.specs.Fmt.{signed_decimal}
use Rattle.std.specs.List.{list_any}
use Rattle.std.specs.Ordering.{int_eq}
use Rattle.krb_wire.specs.Names.{name_text}
use Rattle.krb_wire.specs.Spelling.{Parts}
use Rattle.krb_walk.specs.Store.{fault_of}
use Rattle.krb_ccache.specs.declared.credential.times.Times.{Times}
use Rattle.krb_ccache.specs.Credential.{CredParts}
use Rattle.krb_ccache.specs.declared.offset.Offset.{Offset}
use Rattle.krb_ccache.specs.Config.{is_config}
use Rattle.krb_ccache.specs.Header.{offset_in}
use Rattle.krb_ccache.specs.Ticket.{ticket_encryption, ticket_server}
use Rattle.krb_ccache.specs.Store.{CacheState, PlacedCredential, store_of, placed_credentials}
use Rattle.krb_text.specs.Etype.{is_weak}
use Rattle.krb_text.specs.FaultLine.{fault_line}
use Rattle.krb_audit.specs.GoingOn.{looked_at}
use Rattle.krb_show.specs.Ago.{ago, time_cell}
use Rattle.krb_show.specs.Columns.{counted, table}
use Rattle.krb_show.specs.EtypeNames.{encryption_cell, etype_cell, has_weak_encryption}
use Rattle.krb_show.specs.declared.seen.Judgement.{Judgement}
use Rattle.krb_show.specs.Heading.{count_note, mode_note}

-- the tickets among credentials, without configuration entries
abbrev pub tickets : List PlacedCredential → List CredParts
tickets xs = filter (λ c. not (is_config c)) (map (λ x. x.1) xs)

-- ---- the cells of a ticket

-- when a ticket becomes valid: at its start time, or at its authtime if it has none
abbrev pub start : Times → ℕ
start t = if t.starttime == 0 then t.authtime else t.starttime

-- the flag INVALID is set among a ticket's flags (RFC 4120, section 5.3)
abbrev pub is_invalid : ℕ → Bool
is_invalid flags = not (bit_and flags (2 ^ 24) == 0)

-- the cell of a ticket's end: when it ends, or that it has ended, or when it starts, or that it is invalid
unfoldable pub end_cell : ℕ → Times → ℕ → List ℕ
end_cell now t flags =
    if t.endtime == 0 then codes "-"
    else (if nat_le t.endtime now then codes "ended " ++ ago now t.endtime
    else (if nat_lt now (start t) then codes "starts " ++ ago now (start t)
    else (if is_invalid flags then codes "invalid"
    else ago now t.endtime)))

-- the service of a ticket: its credential's server; where that has no realm, the server that the ticket itself names
unfoldable pub service : CredParts → Parts
service c = if length c.server.realm == 0 then unwrap_or (ticket_server c.ticket) c.server else c.server

-- the cells of a ticket in show's table: its end, its last renewal, its session key's enctype, its own encryption, and its service
abbrev pub ticket_row : ℕ → CredParts → List (List ℕ)
ticket_row now c =
    end_cell now c.times c.flags ∷ time_cell now c.times.renew_till ∷ etype_cell c.key.enctype
    ∷ encryption_cell (ticket_encryption c.ticket) ∷ name_text (service c) ∷ []

-- the titles of the columns
abbrev pub ticket_titles : List (List ℕ)
ticket_titles = codes "ENDS" ∷ codes "RENEW" ∷ codes "SESSION" ∷ codes "TICKET" ∷ codes "SERVICE" ∷ []

-- ---- the heading

-- a ticket lasts beyond a second: it ends later, or has no end
abbrev pub lasts : ℕ → PlacedCredential → Bool
lasts now x = x.1.times.endtime == 0 || nat_lt now x.1.times.endtime

-- a cache has tickets, and none of those by which it is judged lasts
abbrev pub is_expired : ℕ → CacheState → Bool
is_expired now k = nat_lt 0 (length (tickets (placed_credentials k))) && not (list_any (lasts now) (looked_at k))

-- a ticket has a session key of a weak type, or is encrypted by one
abbrev pub is_weak_ticket : CredParts → Bool
is_weak_ticket c = is_weak c.key.enctype || has_weak_encryption (ticket_encryption c.ticket)

-- what is said of the tickets of a cache at a second
abbrev pub judgement : ℕ → CacheState → Judgement
judgement now k =
    let cs = tickets (placed_credentials k) in
    record { count = length cs; weak = length (filter is_weak_ticket cs); is_expired = is_expired now k }

-- the clock's offset from the KDC's, unless it is 0 seconds
abbrev pub offset_note : Option Offset → List ℕ
offset_note None = []
offset_note (Some o) =
    if int_eq o.seconds (pos 0) then [] else codes ", clock offset " ++ (signed_decimal o.seconds ++ codes " s")

-- what is said of a cache: that it has expired, how many tickets are weak, its clock offset, and its file's mode
abbrev pub cache_notes : Judgement → Option Offset → Option ℕ → List ℕ
cache_notes said offset mode =
    (if said.is_expired then codes ", expired!" else []) ++ (count_note said.weak (codes " weak!") ++ (offset_note offset ++ mode_note mode))

-- the heading begins with the file's name, the default principal and the number of tickets
abbrev pub cache_title : List ℕ → Parts → ℕ → List ℕ
cache_title name principal count =
    name ++ (codes ": cache of " ++ (name_text principal ++ (codes ", " ++ counted count (codes "ticket"))))

-- the heading
unfoldable pub cache_heading : List ℕ → Parts → Judgement → Option Offset → Option ℕ → List ℕ
cache_heading name principal said offset mode = cache_title name principal said.count ++ (cache_notes said offset mode ++ codes "\n")

-- ---- the whole

-- what show prints of a cache at a second, with the name and the mode of its file
abbrev pub cache_view : List ℕ → ℕ → Option ℕ → CacheState → List ℕ
cache_view name now mode k =
    cache_heading name k.principal (judgement now k) (offset_in k.header) mode
    ++ (table ticket_titles (map (ticket_row now) (tickets (placed_credentials k))) ++ fault_line (fault_of (store_of k)))
