-- Which tickets of a cache are selected.
use Rattle.std.specs.Prelude.{◌≡◌, ℕ, List, ◌++◌, decimal, codes, if◌then◌else◌, Bool, true, false, not, ◌&&◌, ◌||◌, ◌==◌, nat_le, filter, map, slice_get, Option, None, Some}
use Rattle.std.specs.List.{flat_map, list_any}
use Rattle.std.specs.Option.{option_map_or}
use Rattle.std.specs.Str.{bytes_eq}
use Rattle.krb_wire.specs.Names.{name_text}
use Rattle.krb_wire.specs.Spelling.{Parts}
use Rattle.krb_ccache.specs.Credential.{CredParts}
use Rattle.krb_ccache.specs.Config.{is_config}
use Rattle.krb_ccache.specs.Ticket.{ticket_server}
use Rattle.krb_ccache.specs.Store.{CacheState, PlacedCredential, placed_credentials}
use Rattle.krb_audit.specs.declared.tickets.SelectedTickets.{SelectedTickets}
use Rattle.krb_names.specs.Asked.{AskedParts, asks_for, asks_for_any, with_plain_realms}

-- a server is a service, and not a ticket-granting one: its first component is not `krbtgt`
abbrev pub is_service : Parts → Bool
is_service p = not (option_map_or (λ first. bytes_eq first (codes "krbtgt")) (slice_get p.components 0) false)

-- a server has the realm under which gssproxy keeps a user's credentials
abbrev pub is_of_gssproxy : Parts → Bool
is_of_gssproxy p = bytes_eq p.realm (codes "X-GSSPROXY:")

-- what is asked for of a server: patterns ask for gssproxy's only if they have no star in the realm
abbrev pub asked_of : AskedParts → Parts → AskedParts
asked_of servers p = if is_of_gssproxy p then with_plain_realms servers else servers

-- the server of a ticket, or the one that the ticket itself names, is asked for; if none is, any server but gssproxy's is selected
abbrev pub has_selected_server : AskedParts → CredParts → Bool
has_selected_server servers c =
    if asks_for_any servers then not (is_of_gssproxy c.server)
    else asks_for (asked_of servers c.server) c.server || option_map_or (asks_for (asked_of servers c.server)) (ticket_server c.ticket) false

-- a credential is a ticket for a selected server, and for a service if only services are selected
abbrev pub names_ticket : AskedParts → Bool → CredParts → Bool
names_ticket servers services c = not (is_config c) && ((not services || is_service c.server) && has_selected_server servers c)

-- a credential has ended by a second: it has an end time, at or before the second; without a second the end does not matter
abbrev pub has_ended_by : Option ℕ → CredParts → Bool
has_ended_by None c = true
has_ended_by (Some now) c = not (c.times.endtime == 0) && nat_le c.times.endtime now

-- the tickets that are selected among credentials
abbrev pub tickets_among : AskedParts → Bool → Option ℕ → List PlacedCredential → List PlacedCredential
tickets_among servers services ended_by xs = filter (λ x. names_ticket servers services x.1 && has_ended_by ended_by x.1) xs

-- the tickets of a cache that are selected, in file order
abbrev pub selected_tickets : AskedParts → Bool → Option ℕ → CacheState → List PlacedCredential
selected_tickets servers services ended_by k = tickets_among servers services ended_by (placed_credentials k)

-- the line that reports a ticket as removed: its place and its server
abbrev pub removed_ticket_line : PlacedCredential → List ℕ
removed_ticket_line x = codes "removed " ++ (decimal x.0 ++ (codes " " ++ (name_text x.1.server ++ codes "\n")))

-- the result is these tickets: their places, their lines, each after a label, and whether some ticket is named so
pub record SelectsTickets {A : Type 0} (label : List ℕ) (servers : AskedParts) (services : Bool) (ended_by : Option ℕ) (k : CacheState) (selected : SelectedTickets A) : Type 0 where
  pub places : selected.places.items ≡ map (λ x. x.0) (selected_tickets servers services ended_by k)
  pub text : selected.text.items ≡ flat_map (λ x. label ++ removed_ticket_line x) (selected_tickets servers services ended_by k)
  pub is_named : selected.is_named ≡ list_any (λ x. names_ticket servers services x.1) (placed_credentials k)

-- the tickets added so far, with those selected among the rest, are those selected among all
pub record SelectsSoFar {A : Type 0} (label : List ℕ) (servers : AskedParts) (services : Bool) (ended_by : Option ℕ) (rest all : List PlacedCredential) (selected : SelectedTickets A) : Type 0 where
  pub places : selected.places.items ++ map (λ x. x.0) (tickets_among servers services ended_by rest) ≡ map (λ x. x.0) (tickets_among servers services ended_by all)
  pub text : selected.text.items ++ flat_map (λ x. label ++ removed_ticket_line x) (tickets_among servers services ended_by rest) ≡ flat_map (λ x. label ++ removed_ticket_line x) (tickets_among servers services ended_by all)
  pub is_named : (selected.is_named || list_any (λ x. names_ticket servers services x.1) rest) ≡ list_any (λ x. names_ticket servers services x.1) all
