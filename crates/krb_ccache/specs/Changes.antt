-- What creating a cache (`create_result`), adding a credential (`put_result`) and removing one (`cut_result`) give.
use Rattle.std.specs.Prelude.{◌≡◌, ℕ, ◌+◌, ◌≤◌, List, [], ◌∷◌, ◌++◌, length, map, Option, Some, None, is_some, Result, Ok, Err, IsOk, Bool, true, false, nat_lt, ◌==◌, if◌then◌else◌}
use Rattle.std.specs.Int.{w32, cast_unsigned}
use Rattle.krb_wire.specs.Spelling.{Parts, cc_principal}
use Rattle.krb_walk.specs.declared.refusal.Code.{Code}
use Rattle.krb_walk.specs.declared.refusal.Code.TheVariants as code
use Rattle.krb_walk.specs.declared.refusal.Refusal.{Refusal}
use Rattle.krb_walk.specs.declared.refusal.Refusal.TheVariants.{Code as ByCode, NoMemory}
use Rattle.krb_walk.specs.Events.{cut_store}
use Rattle.krb_walk.specs.Store.{end_of, fault_of, live_bytes}
use Rattle.krb_ccache.specs.declared.version.Version.{Version}
use Rattle.krb_ccache.specs.declared.version.Version.TheVariants.{V3, V4}
use Rattle.krb_ccache.specs.declared.offset.Offset.{Offset}
use Rattle.krb_ccache.specs.Credential.{CredParts, credential, is_marked, marked_times, number32}
use Rattle.krb_ccache.specs.Header.{Field, header}
use Rattle.krb_ccache.specs.Store.{CacheState, first_place, placed_from, image_of, store_of}
use Rattle.krb_ccache.specs.Open.{InMemory}

-- a cache of this version refuses additions and removals: version 3
abbrev pub is_read_only : Version → Bool
is_read_only V3 = true
is_read_only V4 = false

-- ---- a new cache

-- the fields of a new header: the time offset, if any
abbrev pub new_header : Option Offset → List Field
new_header None = []
new_header (Some o) = record { tag = 1; value = number32 (cast_unsigned w32 o.seconds) ++ number32 (cast_unsigned w32 o.micros) } ∷ []

-- the preamble of a version 4 image: all that is before the credentials
abbrev pub new_preamble : Parts → Option Offset → List ℕ
new_preamble p offset = 5 ∷ 4 ∷ (header V4 (new_header offset) ++ cc_principal p)

-- a cache of version 4 without credentials
abbrev pub empty_cache : Parts → Option Offset → ℕ → CacheState
empty_cache principal offset limit = record {
  version = V4;
  limit = limit;
  header = new_header offset;
  principal = principal;
  contents = record { cells = []; end = [] };
}

-- what creating a cache gives: it is refused if its image would be longer than the limit
abbrev pub create_result : Parts → Option Offset → ℕ → Result CacheState Code
create_result principal offset limit =
    if nat_lt limit (length (image_of (empty_cache principal offset limit))) then Err code.Full
    else Ok (empty_cache principal offset limit)

-- a refusal by code is the given one, and memory runs out only if nothing refuses
abbrev pub RefusesAs : {S : Type 0} → Result S Code → Refusal → Type 0
RefusesAs given (ByCode refused) = given ≡ Err refused
RefusesAs given NoMemory = IsOk given

-- ---- removing

-- a credential with the removed mark
abbrev pub add_mark : CredParts → CredParts
add_mark c = record c { times = marked_times c.times }

-- credentials, where the one at the place p has the removed mark
abbrev pub add_mark_at : Version → ℕ → ℕ → List CredParts → List CredParts
add_mark_at v at p cs = map (λ x. if x.0 == p then add_mark x.1 else x.1) (placed_from v at cs)

-- a cache after the removal of a credential: the credential at a place has the removed mark, and all else is unchanged
abbrev pub with_mark : CacheState → ℕ → CacheState
with_mark k p = record k { contents = record { cells = add_mark_at k.version (first_place k) p k.contents.cells; end = k.contents.end } }

-- the result of removing the credential at a place: version 3 refuses, then a damaged cache, then a place where no live credential begins
abbrev pub cut_result : CacheState → ℕ → Result CacheState Code
cut_result k p =
    if is_read_only k.version then Err code.ReadOnly
    else (if is_some (fault_of (store_of k)) then Err code.Damaged
    else (if is_some (live_bytes (store_of k) p) then Ok (with_mark k p) else Err code.NotLive))

-- a cache after the removal of the credentials at these places; a removal that is refused changes nothing
abbrev pub without : CacheState → List ℕ → CacheState
without k [] = k
without k (p ∷ ps) = without (cut_store k (cut_result k p)) ps

-- ---- adding

-- a cache with a credential appended
abbrev pub with_last : CacheState → CredParts → CacheState
with_last k c = record k { contents = record { cells = k.contents.cells ++ c ∷ []; end = k.contents.end } }

-- the result of appending a credential: its place and the cache, refused if the image would be longer than the limit
abbrev pub append_result : CacheState → CredParts → Result (ℕ × CacheState) Code
append_result k c =
    if nat_lt k.limit (length (image_of (with_last k c))) then Err code.Full
    else Ok (end_of (store_of k), with_last k c)

-- the result of adding a credential: version 3 refuses, then a damaged cache, then a credential with the removed mark
abbrev pub put_result : CacheState → CredParts → Result (ℕ × CacheState) Code
put_result k c =
    if is_read_only k.version then Err code.ReadOnly
    else (if is_some (fault_of (store_of k)) then Err code.Damaged
    else (if is_marked c then Err code.Marked else append_result k c))

-- the addition of a credential is refused
abbrev pub is_refused : Result (ℕ × CacheState) Code → Bool
is_refused (Ok given) = false
is_refused (Err refused) = true

-- the addition of a credential takes no memory: it is refused
abbrev pub takes_none : CacheState → CredParts → Bool
takes_none k c = is_refused (put_result k c)

-- a cache in memory has room for one more credential
abbrev pub HasRoomFor : InMemory → CredParts → Type 0
HasRoomFor k c = length (image_of k.state) + length (credential V4 c) ≤ k.room
