-- The tickets by which a cache is judged: whether there is one to go on with.
use Rattle.std.specs.Prelude.{ℕ, ◌==◌, List, [], ◌∷◌, length, filter, codes, Bool, not, ◌&&◌, if◌then◌else◌}
use Rattle.krb_wire.specs.Names.{have_same_name}
use Rattle.krb_wire.specs.Spelling.{Parts}
use Rattle.krb_ccache.specs.Config.{is_config}
use Rattle.krb_ccache.specs.Store.{CacheState, PlacedCredential, placed_credentials}

-- the ticket-granting service of a realm, `krbtgt/REALM@REALM`; the name type does not matter
abbrev pub tgs_of : List ℕ → Parts
tgs_of realm = record { name_type = 2; realm = realm; components = codes "krbtgt" ∷ realm ∷ [] }

-- a credential is a ticket, not a configuration entry
abbrev pub is_ticket : PlacedCredential → Bool
is_ticket x = not (is_config x.1)

-- a credential is a ticket-granting ticket of a realm
abbrev pub is_tgt : List ℕ → PlacedCredential → Bool
is_tgt realm x = is_ticket x && have_same_name x.1.server (tgs_of realm)

-- of the ticket-granting tickets of a cache and all its tickets, the first if there are any, and otherwise all
abbrev pub first_of : List PlacedCredential → List PlacedCredential → List PlacedCredential
first_of tgts tickets = if length tgts == 0 then tickets else tgts

-- the tickets by which a cache is judged: the ticket-granting tickets of its default principal's realm, or all tickets if there is none
abbrev pub looked_at : CacheState → List PlacedCredential
looked_at k = first_of (filter (is_tgt k.principal.realm) (placed_credentials k)) (filter is_ticket (placed_credentials k))
