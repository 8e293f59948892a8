-- The credentials of an image from a place on, removed ones too.
use Rattle.std.specs.Prelude.{◌≡◌, ℕ, ◌+◌, ◌≤◌, ◌^◌, List, [], ◌∷◌, length, filter, find, ◌==◌, Option, Some, None}
use Rattle.krb_cells.specs.Contents.{contents}
use Rattle.krb_ccache.specs.declared.version.Version.{Version}
use Rattle.krb_ccache.specs.Credential.{CredParts, credential, key_at}
use Rattle.krb_ccache.specs.Store.{CacheState, PlacedCredential, credentials_format, placed_from, is_live, live_of, first_place}
use Rattle.krb_wire.specs.Reading.{◌>>=◌, cc_principal_at}

-- credentials of a version that begin at a place
pub record CredentialsFrom : Type 0 where
  pub version : Version
  pub place : ℕ
  pub cells : List CredParts

-- all credentials of a cache
abbrev pub all_credentials : CacheState → CredentialsFrom
all_credentials k = record { version = k.version; place = first_place k; cells = k.contents.cells }

-- the first credential at its place, and those after it
pub record BeginsWithCredential (old : CredentialsFrom) (at : ℕ) (c : CredParts) (new : CredentialsFrom) : Type 0 where
  pub place : at ≡ old.place
  pub cells : old.cells ≡ c ∷ new.cells
  pub next : new.place ≡ at + length (credential old.version c)
  pub version : new.version ≡ old.version
  pub small : new.place ≤ 2 ^ 30

-- the first credential with its place and those after it, or none if none is left
abbrev pub GivesCredential : {X : Type 0} → (X → CredParts) → CredentialsFrom → Option (ℕ × X) → CredentialsFrom → Type 0
GivesCredential view old None new = (old.cells ≡ []) × (new ≡ old)
GivesCredential view old (Some x) new = BeginsWithCredential old x.0 (view x.1) new

-- the live credentials with their places
abbrev pub live_from : CredentialsFrom → List PlacedCredential
live_from c = filter is_live (placed_from c.version c.place c.cells)

-- the live credential at a place, if there is one
abbrev pub live_at : CredentialsFrom → ℕ → Option CredParts
live_at c p = live_of (find (λ x. x.0 == p) (placed_from c.version c.place c.cells))

-- the bytes from a place on are the credentials of a cache, and nothing after them
pub record AreCredentials (k : CacheState) (first : ℕ) (bytes : List ℕ) : Type 0 where
  pub place : first ≡ first_place k
  pub contents : contents (credentials_format k.version) bytes ≡ record { cells = k.contents.cells; end = [] }
  pub small : first + length bytes ≤ 2 ^ 30

-- ---- for private contracts only: where the times of a credential are

-- the bytes from the times on of the credential that the bytes begin with
unfoldable pub times_from : Version → List ℕ → Option (List ℕ)
times_from v bytes = do
  client ← cc_principal_at bytes
  server ← cc_principal_at client.1
  key ← key_at v server.1
  Some key.1
