-- What the calls that read a cache return.
use Rattle.std.specs.Prelude.{◌≡◌, ℕ, List, [], ◌∷◌, Bool, not, ◌&&◌, Option, Some, None, find, Result, ok_or, if◌then◌else◌}
use Rattle.krb_wire.specs.Spelling.{Parts}
use Rattle.krb_wire.specs.Names.{have_same_name}
use Rattle.krb_wire.specs.declared.name_fault.NameFault.{NameFault}
use Rattle.krb_ccache.specs.Credential.{CredParts}
use Rattle.krb_ccache.specs.Store.{CacheState, PlacedCredential, placed_credentials}
use Rattle.krb_ccache.specs.Config.{is_config}
use Rattle.krb_c.specs.declared.cache.looks.KrbfTicket.{KrbfTicket}
use Rattle.krb_c.specs.Text.{FindsNamed, AreShown}
use Rattle.krb_walk.specs.declared.refusal.Code.TheVariants.{NotFound}

-- ---- what C sees of a credential

-- 1 if true, else 0
abbrev pub flag : Bool → ℕ
flag b = if b then 1 else 0

-- what C sees is the credential at a place: its numbers, and where its bytes are
pub record Shows (seen : KrbfTicket) (at : ℕ) (c : CredParts) : Type 0 where
  pub place : seen.place ≡ at
  pub enctype : seen.enctype ≡ c.key.enctype
  pub authtime : seen.authtime ≡ c.times.authtime
  pub starttime : seen.starttime ≡ c.times.starttime
  pub endtime : seen.endtime ≡ c.times.endtime
  pub renew_till : seen.renew_till ≡ c.times.renew_till
  pub flags : seen.flags ≡ c.flags
  pub is_skey : seen.is_skey ≡ c.is_skey
  pub is_config : seen.is_config ≡ flag (is_config c)
  pub key : AreShown seen.key c.key.bytes
  pub ticket : AreShown seen.ticket c.ticket
  pub second_ticket : AreShown seen.second_ticket c.second_ticket

-- ---- what the calls that read a cache return

-- a credential is a ticket for a server: not a configuration entry, and its server has that realm and those components
abbrev pub is_ticket_for : Parts → CredParts → Bool
is_ticket_for server c = not (is_config c) && have_same_name server c.server

-- the first live ticket for a server; in a damaged cache, among those before its fault
abbrev pub ticket_for : CacheState → Parts → Option PlacedCredential
ticket_for k server = find (λ x. is_ticket_for server x.1) (placed_credentials k)

-- a look-up of the server that a text names
abbrev pub Finds : CacheState → Result Parts NameFault → ℕ → KrbfTicket → KrbfTicket → Type 0
Finds k named = FindsNamed Shows (λ server. ok_or (ticket_for k server) NotFound) named

-- a text, or none if it is empty
abbrev pub text_or_none : List ℕ → Option (List ℕ)
text_or_none [] = None
text_or_none (b ∷ bs) = Some (b ∷ bs)
