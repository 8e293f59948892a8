-- Tickets that are good at a time.
use Rattle.std.specs.Prelude.{ℕ, List, ◌++◌, Bool, ◌&&◌, not, nat_le, nat_lt, ◌==◌, filter, codes, if◌then◌else◌}
use Rattle.std.specs.List.{flat_map}
use Rattle.krb_wire.specs.Names.{name_text}
use Rattle.krb_ccache.specs.Config.{is_config}
use Rattle.krb_ccache.specs.Credential.{CredParts}
use Rattle.krb_ccache.specs.Store.{PlacedCredential}

-- when a ticket becomes valid: its authtime if it has no start time
abbrev pub start_of : CredParts → ℕ
start_of c = if c.times.starttime == 0 then c.times.authtime else c.times.starttime

-- a credential is a ticket, has begun and has not expired
abbrev pub is_good : ℕ → CredParts → Bool
is_good now c = nat_le (start_of c) now && nat_lt now c.times.endtime && not (is_config c)

-- the services of the tickets that are good, each on a line
abbrev pub good_tickets : ℕ → List PlacedCredential → List ℕ
good_tickets now xs = flat_map (λ x. name_text x.1.server ++ codes "\n") (filter (λ x. is_good now x.1) xs)
