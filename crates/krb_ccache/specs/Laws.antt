-- Laws of the definitions.
use Rattle.std.specs.Prelude.{◌≡◌, ℕ, ◌<◌, ◌≤◌, List, ◌++◌, length, map, get_or, Some, Ok}
use Rattle.std.specs.List.{flat_map, AllByRecursion}
use Rattle.krb_wire.specs.Spelling.{FitsCc}
use Rattle.krb_cells.specs.Contents.{Contents, contents, spelling, IsSound, IsSpelled}
use Rattle.krb_walk.specs.declared.event.Event.TheVariants.{Cut}
use Rattle.krb_walk.specs.Events.{put_store}
use Rattle.krb_walk.specs.History.{state_after}
use Rattle.krb_ccache.specs.declared.version.Version.{Version}
use Rattle.krb_ccache.specs.Credential.{CredParts, credential, credential_at, FitsCredential, in_version_4}
use Rattle.krb_ccache.specs.Header.{FitsHeader}
use Rattle.krb_ccache.specs.Store.{CacheState, credentials_format, image_of, open_result, placed_credentials}
use Rattle.krb_ccache.specs.Changes.{without}
use Rattle.krb_ccache.specs.Rewrite.{cache_rules, rewrite_result}
use Rattle.krb_ccache.specs.SetConfig.{SettingParts, setting_events, set_config_result}

-- each number is below 256
abbrev pub AreBytes : List ℕ → Type 0
AreBytes bytes = (i : ℕ) → get_or bytes i 0 < 256

-- any bytes are the spelling of their contents
abbrev pub IsAlwaysSpelled : Type 0
IsAlwaysSpelled = (v : Version) (bytes : List ℕ) → AreBytes bytes → IsSpelled (credentials_format v) bytes (contents (credentials_format v) bytes)

-- credentials whose spelling is a prefix of the bytes are read first, so no such list is longer than the one read
abbrev pub IsLongest : Type 0
IsLongest = (v : Version) (cells : List CredParts) (rest : List ℕ) → AllByRecursion (FitsCredential v) cells → AreBytes (flat_map (credential v) cells ++ rest)
    → contents (credentials_format v) (flat_map (credential v) cells ++ rest) ≡ record { cells = cells ++ (contents (credentials_format v) rest).cells; end = (contents (credentials_format v) rest).end }

-- sound contents are the only ones with their spelling
abbrev pub IsOnlyOne : Type 0
IsOnlyOne = (v : Version) (k : Contents CredParts (List ℕ)) → IsSound (credentials_format v) k → AreBytes (spelling (credentials_format v) k) → contents (credentials_format v) (spelling (credentials_format v) k) ≡ k

-- a credential that fits is read back from its spelling
abbrev pub IsAlwaysReadBack : Type 0
IsAlwaysReadBack = (v : Version) (c : CredParts) (rest : List ℕ) → FitsCredential v c → credential_at v (credential v c ++ rest) ≡ Some (c, rest)

-- no two credentials that fit have the same spelling
abbrev pub HasOwnSpelling : Type 0
HasOwnSpelling = (v : Version) (c d : CredParts) → FitsCredential v c → FitsCredential v d → credential v c ≡ credential v d → c ≡ d

-- a cache whose parts have spellings, and whose image is not longer than the limit
pub record IsSoundCache (k : CacheState) : Type 0 where
  pub header : FitsHeader k.version k.header
  pub principal : FitsCc k.principal
  pub contents : IsSound (credentials_format k.version) k.contents
  pub within : length (image_of k) ≤ k.limit

-- opening the image of a sound cache gives that cache, so it is the only one with that image
abbrev pub IsOpenedAgain : Type 0
IsOpenedAgain = (k : CacheState) → IsSoundCache k → AreBytes (image_of k) → open_result k.limit (image_of k) ≡ Ok k

-- the live credentials of a cache, in file order
abbrev pub live_credentials : CacheState → List CredParts
live_credentials k = map (λ x. x.1) (placed_credentials k)

-- a rewritten cache has the same live credentials, in the same order, as version 4 has them
abbrev pub IsKeptByRewrites : Type 0
IsKeptByRewrites = (k new : CacheState) → rewrite_result k ≡ Ok new → live_credentials new ≡ map in_version_4 (live_credentials k)

-- the removals at these places, as events, leave the cache without them
abbrev pub AreRemovedByEvents : Type 0
AreRemovedByEvents = (k : CacheState) (cursors places : List ℕ)
    → (state_after cache_rules (record { store = k; cursors = cursors }) (map Cut places)).store ≡ without k places

-- the events of a setting leave the cache that setting the value leaves
abbrev pub IsSetByEvents : Type 0
IsSetByEvents = (k : CacheState) (cursors : List ℕ) (s : SettingParts)
    → (state_after cache_rules (record { store = k; cursors = cursors }) (setting_events k s)).store ≡ put_store k (set_config_result k s.key s.principal s.value)
