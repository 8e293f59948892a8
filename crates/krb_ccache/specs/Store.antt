-- What a credential cache holds, and the cache as a store (MIT ccache format).
use Rattle.std.specs.Prelude.{ℕ, ◌+◌, List, [], ◌∷◌, ◌++◌, length, drop, map, slice_index, Bool, true, false, not, filter, find, Option, Some, None, Result, Ok, Err, nat_lt, ◌==◌, if◌then◌else◌}
use Rattle.krb_wire.specs.Spelling.{Parts, cc_principal}
use Rattle.krb_wire.specs.Reading.{cc_principal_at}
use Rattle.krb_walk.specs.declared.fault.FaultKind.{FaultKind}
use Rattle.krb_walk.specs.declared.fault.FaultKind.TheVariants.{BadCredential}
use Rattle.krb_cells.specs.Contents.{Contents, Format, contents, spelling, unframed}
use Rattle.krb_walk.specs.Store.{Cell, Store}
use Rattle.krb_ccache.specs.declared.version.Version.{Version}
use Rattle.krb_ccache.specs.declared.version.Version.TheVariants.{V3, V4}
use Rattle.krb_ccache.specs.declared.open.CcOpenFault.{CcOpenFault}
use Rattle.krb_ccache.specs.declared.open.CcOpenFault.TheVariants.{TooShort, BadVersion, TooLarge, BadHeader, BadDefault}
use Rattle.krb_ccache.specs.Credential.{CredParts, credential, credential_at, is_marked}
use Rattle.krb_ccache.specs.Header.{Field, header, header_at}

-- the format of a cache's credentials: one after the other, up to bytes that begin with none
abbrev pub credentials_format : Version → Format CredParts (List ℕ)
credentials_format v = unframed (credential_at v) (credential v)

-- a cache: its version, the greatest length that its image may have, its header, its default principal, its credentials, removed ones too, and the bytes after them
pub record CacheState : Type 0 where
  pub version : Version
  pub limit : ℕ
  pub header : List Field
  pub principal : Parts
  pub contents : Contents CredParts (List ℕ)

-- the second byte of a cache: its format version, 3 or 4
abbrev pub version_byte : Version → ℕ
version_byte V3 = 3
version_byte V4 = 4

-- the bytes of a cache
abbrev pub image_of : CacheState → List ℕ
image_of k = 5 ∷ version_byte k.version ∷ (header k.version k.header ++ (cc_principal k.principal ++ spelling (credentials_format k.version) k.contents))

-- the format version that the first two bytes of an image give, 05 and 03 or 04
abbrev pub version_in : List ℕ → Option Version
version_in bytes =
    if slice_index bytes 0 == 5
    then (if slice_index bytes 1 == 3 then Some V3 else (if slice_index bytes 1 == 4 then Some V4 else None))
    else None

-- the cache of an image by its header and by the default principal that was read
abbrev pub open_default : Version → ℕ → List Field → Option (Parts × List ℕ) → Result CacheState CcOpenFault
open_default v limit xs None = Err BadDefault
open_default v limit xs (Some p) = Ok (record { version = v; limit = limit; header = xs; principal = p.0; contents = contents (credentials_format v) p.1 })

-- the cache of an image by the header that was read
abbrev pub open_header : Version → ℕ → Option (List Field × List ℕ) → Result CacheState CcOpenFault
open_header v limit None = Err BadHeader
open_header v limit (Some h) = open_default v limit h.0 (cc_principal_at h.1)

-- the cache of an image by its version, unless the image is longer than the limit
abbrev pub open_version : ℕ → List ℕ → Option Version → Result CacheState CcOpenFault
open_version limit bytes None = Err BadVersion
open_version limit bytes (Some v) = if nat_lt limit (length bytes) then Err TooLarge else open_header v limit (header_at v (drop 2 bytes))

-- the cache in an image, or why there is none: fewer than two bytes, an unknown version, an image longer than the limit, a bad header, or a bad default principal
abbrev pub open_result : ℕ → List ℕ → Result CacheState CcOpenFault
open_result limit bytes = if nat_lt (length bytes) 2 then Err TooShort else open_version limit bytes (version_in bytes)

-- ---- as a store

-- the bytes of a credential that is not removed; a removed one has none
abbrev pub live_by : Bool → List ℕ → Option (List ℕ)
live_by true bytes = None
live_by false bytes = Some bytes

-- a credential as a cell of a store: free if it has the removed mark
abbrev pub store_cell : Version → CredParts → Cell
store_cell v c = record { width = length (credential v c); live = live_by (is_marked c) (credential v c) }

-- the kind of the fault after the last credential: bytes that begin with none
abbrev pub fault_kind : List ℕ → Option FaultKind
fault_kind [] = None
fault_kind (b ∷ bs) = Some BadCredential

-- the place of the first credential, after the default principal
abbrev pub first_place : CacheState → ℕ
first_place k = 2 + length (header k.version k.header) + length (cc_principal k.principal)

-- a cache as a store: its credentials from the first place on, and its fault
abbrev pub store_of : CacheState → Store
store_of k = record { first = first_place k; cells = map (store_cell k.version) k.contents.cells; fault = fault_kind k.contents.end }

-- ---- its credentials

-- a credential with its place
abbrev pub PlacedCredential : Type 0
PlacedCredential = ℕ × CredParts

-- credentials with their places, if the first is at the place `at`
abbrev pub placed_from : Version → ℕ → List CredParts → List PlacedCredential
placed_from v at [] = []
placed_from v at (c ∷ cs) = (at, c) ∷ placed_from v (at + length (credential v c)) cs

-- a credential has no removed mark
abbrev pub is_live : PlacedCredential → Bool
is_live x = not (is_marked x.1)

-- the live credentials of a cache with their places, in file order
abbrev pub placed_credentials : CacheState → List PlacedCredential
placed_credentials k = filter is_live (placed_from k.version (first_place k) k.contents.cells)

-- the credential, if it has no removed mark
abbrev pub if_live : CredParts → Option CredParts
if_live c = if is_marked c then None else Some c

-- the credential of a cell, if there is one and it is live
abbrev pub live_of : Option PlacedCredential → Option CredParts
live_of None = None
live_of (Some x) = if_live x.1

-- the live credential at a place, if there is one
abbrev pub credential_at_place : CacheState → ℕ → Option CredParts
credential_at_place k p = live_of (find (λ x. x.0 == p) (placed_from k.version (first_place k) k.contents.cells))
