-- Setting a configuration value: an entry that holds it is added, and every other entry of its name is removed (MIT ccache format, configuration entries).
use Rattle.std.specs.Prelude.{◌≡◌, ℕ, List, [], ◌∷◌, map, filter, codes, Option, Some, None, Result, Ok, Err, if◌then◌else◌}
use Rattle.krb_wire.specs.Spelling.{Parts}
use Rattle.krb_walk.specs.declared.event.Event.{Event}
use Rattle.krb_walk.specs.declared.event.Event.TheVariants.{Put, Cut}
use Rattle.krb_walk.specs.declared.refusal.Code.{Code}
use Rattle.krb_ccache.specs.Credential.{CredParts, plain_key}
use Rattle.krb_ccache.specs.Store.{CacheState, PlacedCredential, placed_credentials}
use Rattle.krb_ccache.specs.Config.{is_match, query_of, config_of}
use Rattle.krb_ccache.specs.Changes.{put_result, is_refused, without}

-- the text of a principal as the last component of a configuration entry's server, if there is one
abbrev pub text_component : Option (List ℕ) → List (List ℕ)
text_component None = []
text_component (Some text) = text ∷ []

-- the components of a configuration entry's server: `krb5_ccache_conf_data`, the key, and perhaps the text of a principal
abbrev pub config_components : List ℕ → Option (List ℕ) → List (List ℕ)
config_components key text = codes "krb5_ccache_conf_data" ∷ key ∷ text_component text

-- the server of a configuration entry, by its key and perhaps the text of a principal
abbrev pub config_server : List ℕ → Option (List ℕ) → Parts
config_server key text = record { name_type = 1; realm = codes "X-CACHECONF:"; components = config_components key text }

-- the configuration entry of an owner that holds a value as its ticket; every other field is zero or empty
abbrev pub config_entry : Parts → List ℕ → Option (List ℕ) → List ℕ → CredParts
config_entry owner key text value = record {
  client = owner;
  server = config_server key text;
  key = plain_key 0 [];
  times = record { authtime = 0; starttime = 0; endtime = 0; renew_till = 0 };
  is_skey = 0;
  flags = 0;
  addresses = [];
  authdata = [];
  ticket = value;
  second_ticket = [];
}

-- a configuration value to set: its key, perhaps the text of a principal, and the value
pub record SettingParts : Type 0 where
  pub key : List ℕ
  pub principal : Option (List ℕ)
  pub value : List ℕ

-- the configuration entry of an owner for a value to set
abbrev pub entry_of : Parts → SettingParts → CredParts
entry_of owner s = config_entry owner s.key s.principal s.value

-- the live configuration entries of a key and a text of a principal, with their places
abbrev pub matches_of : CacheState → List ℕ → Option (List ℕ) → List PlacedCredential
matches_of k key text = filter (λ x. is_match (query_of k key text) x.1) (placed_credentials k)

-- the places of the configuration entries that a new value replaces, in file order
abbrev pub match_places : CacheState → SettingParts → List ℕ
match_places k s = map (λ x. x.0) (matches_of k s.key s.principal)

-- what an addition leaves, without what is at these places
abbrev pub then_without : List ℕ → Result (ℕ × CacheState) Code → Result (ℕ × CacheState) Code
then_without places (Ok given) = Ok (given.0, without given.1 places)
then_without places (Err refused) = Err refused

-- what setting a value gives: the addition of its entry, and then the removal of each match from before
abbrev pub set_config_result : CacheState → List ℕ → Option (List ℕ) → List ℕ → Result (ℕ × CacheState) Code
set_config_result k key text value = then_without (map (λ x. x.0) (matches_of k key text)) (put_result k (config_entry k.principal key text value))

-- the events that set a configuration value: its entry is added and, unless that is refused, each older entry of its name is removed
abbrev pub setting_events : CacheState → SettingParts → List (Event CredParts)
setting_events k s =
    Put (entry_of k.principal s) ∷ (if is_refused (put_result k (entry_of k.principal s)) then [] else map Cut (match_places k s))

-- exactly one live entry matches, the one with this value at this place, so a look-up returns this value
pub record HoldsConfig (k : CacheState) (key : List ℕ) (text : Option (List ℕ)) (value : List ℕ) (place : ℕ) : Type 0 where
  pub one : matches_of k key text ≡ (place, config_entry k.principal key text value) ∷ []
  pub gives : config_of k key text ≡ Some value
