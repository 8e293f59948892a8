-- The faults that an image is refused for, and the cache of any other image, by its layout.
use Rattle.std.specs.Prelude.{◌≡◌, ℕ, ◌≤◌, List, [], length, drop, map, slice_index, Some, option_map, unwrap_or, codes, Ok}
use Rattle.std.specs.List.{flat_map}
use Rattle.krb_wire.specs.Spelling.{Parts}
use Rattle.krb_wire.specs.Reading.{cc_principal_at}
use Rattle.krb_cells.specs.Contents.{contents}
use Rattle.krb_walk.specs.Store.{end_from}
use Rattle.krb_ccache.specs.declared.version.Version.{Version}
use Rattle.krb_ccache.specs.declared.open.CcOpenFault.{CcOpenFault}
use Rattle.krb_ccache.specs.declared.open.CcOpenFault.TheVariants.{TooShort, BadVersion, TooLarge, BadHeader, BadDefault}
use Rattle.krb_ccache.specs.declared.open.Places.{Places}
use Rattle.krb_ccache.specs.declared.open.Layout.{Layout}
use Rattle.krb_ccache.specs.Credential.{credential}
use Rattle.krb_ccache.specs.Header.{Field, header_at}
use Rattle.krb_ccache.specs.Store.{CacheState, credentials_format, version_byte, store_cell, open_result}

-- the number that messages have for an image that is no cache
abbrev pub open_fault_number : CcOpenFault → ℕ
open_fault_number TooShort = 1
open_fault_number BadVersion = 2
open_fault_number TooLarge = 3
open_fault_number BadHeader = 4
open_fault_number BadDefault = 5

-- what is wrong, in words: our choice
abbrev pub open_fault_phrase : CcOpenFault → List ℕ
open_fault_phrase TooShort = codes "it has fewer than two bytes"
open_fault_phrase BadVersion = codes "it does not begin as a cache of version 3 or 4"
open_fault_phrase TooLarge = codes "it is longer than the limit"
open_fault_phrase BadHeader = codes "its header is damaged"
open_fault_phrase BadDefault = codes "it has no default principal"

-- a cache in memory: its state, and how many bytes it can hold before it takes more memory
pub record InMemory : Type 0 where
  pub state : CacheState
  pub room : ℕ

-- the header after the first two bytes, or no fields
abbrev pub header_in : Version → List ℕ → List Field
header_in v image = unwrap_or (option_map (λ x. x.0) (header_at v (drop 2 image))) []

-- an empty name
abbrev pub empty_name : Parts
empty_name = record { name_type = 0; realm = []; components = [] }

-- the name that the bytes begin with, or the empty one
abbrev pub principal_in : List ℕ → Parts
principal_in bytes = unwrap_or (option_map (λ x. x.0) (cc_principal_at bytes)) empty_name

-- the cache of an image, by its layout
abbrev pub cache_of : Layout → List ℕ → CacheState
cache_of h image = record {
  version = h.version;
  limit = h.limit;
  header = header_in h.version image;
  principal = principal_in (drop h.places.principal image);
  contents = contents (credentials_format h.version) (drop h.places.first image);
}

-- `places` are where the parts of an image are
pub record ArePlaces (v : Version) (image : List ℕ) (places : Places) : Type 0 where
  pub header : header_at v (drop 2 image) ≡ Some (header_in v image, drop places.principal image)
  pub principal_within : places.principal ≤ length image
  pub principal : cc_principal_at (drop places.principal image) ≡ Some (principal_in (drop places.principal image), drop places.first image)
  pub first_within : places.first ≤ length image
  pub end : places.end ≡ end_from places.first (map (store_cell v) (contents (credentials_format v) (drop places.first image)).cells)
  pub end_within : places.end ≤ length image

-- the bytes are an image with that layout
pub record IsImage (h : Layout) (image : List ℕ) : Type 0 where
  pub long : 2 ≤ length image
  pub first_byte : slice_index image 0 ≡ 5
  pub second_byte : slice_index image 1 ≡ version_byte h.version
  pub within : length image ≤ h.limit
  pub limit_fits : h.limit ≤ 1073741824
  pub parts : ArePlaces h.version image h.places

-- the bytes are an image with that layout, of this cache
pub record Holds (h : Layout) (image : List ℕ) (k : CacheState) : Type 0 where
  pub kept : IsImage h image
  pub state : cache_of h image ≡ k

-- the bytes open as this cache, under any limit that is no smaller
abbrev pub Reopens : CacheState → List ℕ → Type 0
Reopens k bytes = (limit : ℕ) → k.limit ≤ limit → open_result limit bytes ≡ Ok (record k { limit = limit })

-- the total length of the credentials that the bytes begin with
abbrev pub credentials_len : Version → List ℕ → ℕ
credentials_len v bytes = length (flat_map (credential v) (contents (credentials_format v) bytes).cells)
