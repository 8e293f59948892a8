-- Configuration entries (MIT ccache format, configuration entries).
use Rattle.std.specs.Prelude.{ℕ, Bool, true, false, ◌&&◌, List, [], ◌∷◌, Option, Some, None, is_some, option_map, find, codes, option_copied, if◌then◌else◌}
use Rattle.std.specs.Str.{bytes_eq}
use Rattle.krb_wire.specs.Spelling.{Parts}
use Rattle.krb_wire.specs.Names.{have_same_name}
use Rattle.krb_ccache.specs.declared.config.ConfigName.{ConfigName}
use Rattle.krb_ccache.specs.Credential.{CredParts}
use Rattle.krb_ccache.specs.Store.{CacheState, PlacedCredential, placed_credentials}

-- the name of a configuration entry: its key, and perhaps the text of a principal
pub record ConfigParts : Type 0 where
  pub key : List ℕ
  pub principal : Option (List ℕ)

-- the parts of a name that is borrowed from a credential
abbrev pub config_parts : ConfigName → ConfigParts
config_parts x = record { key = x.key.now; principal = option_copied x.principal }

-- what is asked of configuration entries: the owner (the client), the key, and perhaps the text of a principal
pub record QueryParts : Type 0 where
  pub owner : Parts
  pub key : List ℕ
  pub principal : Option (List ℕ)

-- the name of a configuration entry in the components of its server after the first: a key, and perhaps the text of a principal
abbrev pub config_under : List (List ℕ) → Option ConfigParts
config_under [] = None
config_under (key ∷ []) = Some (record { key = key; principal = None })
config_under (key ∷ text ∷ []) = Some (record { key = key; principal = Some text })
config_under (key ∷ text ∷ other ∷ others) = None

-- the name of a configuration entry in the components of its server: the first is `krb5_ccache_conf_data`
abbrev pub config_among : List (List ℕ) → Option ConfigParts
config_among [] = None
config_among (first ∷ others) = if bytes_eq first (codes "krb5_ccache_conf_data") then config_under others else None

-- the name of a configuration entry in a credential's server, of the realm `X-CACHECONF:`; no other field matters
abbrev pub config_name : Parts → Option ConfigParts
config_name p = if bytes_eq p.realm (codes "X-CACHECONF:") then config_among p.components else None

-- a credential is a configuration entry
abbrev pub is_config : CredParts → Bool
is_config c = is_some (config_name c.server)

-- two texts of principals are equal, or both are missing
abbrev pub same_text : Option (List ℕ) → Option (List ℕ) → Bool
same_text None None = true
same_text (Some a) (Some b) = bytes_eq a b
same_text None (Some b) = false
same_text (Some a) None = false

-- a configuration entry's name has this key and this text of a principal
abbrev pub is_under : List ℕ → Option (List ℕ) → Option ConfigParts → Bool
is_under key text None = false
is_under key text (Some x) = bytes_eq x.key key && same_text x.principal text

-- a credential is a configuration entry of an owner, with a key and the text of a principal
abbrev pub is_match : QueryParts → CredParts → Bool
is_match q c = is_under q.key q.principal (config_name c.server) && have_same_name q.owner c.client

-- the value of the first match
abbrev pub value_among : QueryParts → List PlacedCredential → Option (List ℕ)
value_among q xs = option_map (λ x. x.1.ticket) (find (λ x. is_match q x.1) xs)

-- the question for an entry of the default principal
abbrev pub query_of : CacheState → List ℕ → Option (List ℕ) → QueryParts
query_of k key text = record { owner = k.principal; key = key; principal = text }

-- the value of the first such entry in a cache
abbrev pub config_of : CacheState → List ℕ → Option (List ℕ) → Option (List ℕ)
config_of k key text = value_among (query_of k key text) (placed_credentials k)
