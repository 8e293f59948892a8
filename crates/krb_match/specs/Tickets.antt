-- Which tickets of a cache are looked at, and what a keytab says of them.
use Rattle.std.specs.Prelude.{ℕ, List, [], ◌∷◌, map, filter, Bool, not, ◌&&◌, ◌||◌, if◌then◌else◌, Option, None}
use Rattle.std.specs.Option.{option_or}
use Rattle.krb_wire.specs.Names.{name_text}
use Rattle.krb_wire.specs.Spelling.{Parts}
use Rattle.krb_keytab.specs.Find.{PlacedEntry, placed_entries}
use Rattle.krb_keytab.specs.Store.{KeytabState}
use Rattle.krb_ccache.specs.declared.ticket.TicketEncryption.{TicketEncryption}
use Rattle.krb_ccache.specs.Config.{is_config}
use Rattle.krb_ccache.specs.Credential.{CredParts}
use Rattle.krb_ccache.specs.Store.{CacheState, PlacedCredential, placed_credentials}
use Rattle.krb_ccache.specs.Ticket.{ticket_encryption}
use Rattle.krb_audit.specs.Tickets.{is_of_gssproxy, is_service}
use Rattle.krb_names.specs.Asked.{AskedParts, asks_for, asks_for_any}
use Rattle.krb_match.specs.declared.judgement.Judgement.{Judgement}
use Rattle.krb_match.specs.declared.judgement.Judgement.TheVariants.{Name}
use Rattle.krb_match.specs.Match.{has_name, judged, name_of, ticket_of}
use Rattle.krb_match.specs.Names.{near_entry}
use Rattle.krb_match.specs.Said.{judgement_line}

-- a ticket is asked for, by its credential's server or by its own; if any name is, it is for a service, or an entry has its name
abbrev pub is_asked : AskedParts → List PlacedEntry → CredParts → Bool
is_asked asked xs c =
    if asks_for_any asked then is_service (name_of c) || has_name (name_of c) xs
    else asks_for asked c.server || asks_for asked (name_of c)

-- a credential is a ticket that ktmatch looks at: asked for, and not gssproxy's
abbrev pub is_looked_at : AskedParts → List PlacedEntry → CredParts → Bool
is_looked_at names xs c = not (is_config c) && (not (is_of_gssproxy c.server) && is_asked names xs c)

-- a ticket that ktmatch looked at: its place, its encryption, its name as text, and what the keytab says of it
pub record MatchedParts : Type 0 where
  pub place : ℕ
  pub encryption : Option TicketEncryption
  pub name : List ℕ
  pub judgement : Judgement

-- what entries say of a credential
abbrev pub said : List PlacedEntry → CredParts → Judgement
said xs c = judged xs (ticket_of c (name_of c))

-- what ktmatch says of a ticket of a cache, by the entries of the keytab
abbrev pub matched : List PlacedEntry → PlacedCredential → MatchedParts
matched xs (place, c) = record { place = place; encryption = ticket_encryption c.ticket; name = name_text (name_of c); judgement = said xs c }

-- the line that ktmatch prints of a ticket
abbrev pub matched_line : MatchedParts → List ℕ
matched_line t = judgement_line t.place t.encryption t.name t.judgement

-- the credentials that ktmatch looks at
abbrev pub looked_at : AskedParts → List PlacedEntry → List PlacedCredential → List PlacedCredential
looked_at names xs cs = filter (λ c. is_looked_at names xs c.1) cs

-- what ktmatch says of the tickets of a cache, in file order
abbrev pub matched_tickets : AskedParts → KeytabState → CacheState → List MatchedParts
matched_tickets names k c = map (matched (placed_entries k)) (looked_at names (placed_entries k) (placed_credentials c))

-- ---- the entry that is named

-- the number of the entry whose name is nearly that of a ticket, if no entry has the ticket's name
abbrev pub near_by : List PlacedEntry → Parts → Judgement → Option ℕ
near_by xs name Name = near_entry xs name
near_by xs name judgement = None

-- the number of the entry whose name is nearly that of a ticket, of the first ticket that has such an entry
abbrev pub first_near : List PlacedEntry → List PlacedCredential → Option ℕ
first_near xs [] = None
first_near xs (c ∷ cs) = option_or (near_by xs (name_of c.1) (said xs c.1)) (first_near xs cs)

-- the number of the entry whose name is nearly that of a ticket of a cache, if it is wanted
abbrev pub near_ticket : Bool → AskedParts → KeytabState → CacheState → Option ℕ
near_ticket wanted names k c = if wanted then first_near (placed_entries k) (looked_at names (placed_entries k) (placed_credentials c)) else None
