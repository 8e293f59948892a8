-- Rewriting a cache.
use Rattle.std.specs.Prelude.{List, [], length, map, filter, not, is_some, Result, Ok, Err, nat_lt, if◌then◌else◌, ◌≡◌, ℕ, Option, Some}
use Rattle.krb_walk.specs.declared.refusal.Code.{Code}
use Rattle.krb_walk.specs.declared.refusal.Code.TheVariants.{Damaged, Full}
use Rattle.krb_walk.specs.Store.{fault_of}
use Rattle.krb_ccache.specs.declared.version.Version.TheVariants.{V4}
use Rattle.krb_ccache.specs.Credential.{CredParts, is_marked, in_version_4, credential, credential_at}
use Rattle.krb_ccache.specs.Header.{offset_in}
use Rattle.krb_ccache.specs.Store.{CacheState, image_of, store_of, credentials_format}
use Rattle.krb_ccache.specs.Changes.{new_header, cut_result, put_result, takes_none}
use Rattle.krb_walk.specs.Rules.{Rules}
use Rattle.std.specs.List.{flat_map}
use Rattle.std.specs.Int.{w16}
use Rattle.krb_wire.specs.declared.format.Order.TheVariants.{Big}
use Rattle.krb_wire.specs.Reading.{◌>>=◌, number_at, cc_principal_at}
use Rattle.krb_cells.specs.Contents.{contents}
use Rattle.krb_ccache.specs.declared.version.Version.{Version}

-- the live credentials, in file order, as version 4 has them
abbrev pub new_cells : List CredParts → List CredParts
new_cells cs = map in_version_4 (filter (λ c. not (is_marked c)) cs)

-- a cache rewritten: in version 4, with its live credentials, its default principal, and of its header only the time offset
abbrev pub rewrite_of : CacheState → CacheState
rewrite_of k = record {
  version = V4;
  limit = k.limit;
  header = new_header (offset_in k.header);
  principal = k.principal;
  contents = record { cells = new_cells k.contents.cells; end = [] };
}

-- the result of rewriting a cache: refused if the cache is damaged, and then if the image would be longer than the limit
abbrev pub rewrite_result : CacheState → Result CacheState Code
rewrite_result k =
    if is_some (fault_of (store_of k)) then Err Damaged
    else (if nat_lt k.limit (length (image_of (rewrite_of k))) then Err Full else Ok (rewrite_of k))

-- ---- a cache as a store that can be walked while it changes

-- a cache as a store, and the results of an addition, a removal and a rewrite
abbrev pub cache_rules : Rules CacheState CredParts
cache_rules = record { seen = store_of; put = put_result; cut = cut_result; rewrite = rewrite_result; takes_none = takes_none }

-- ---- for private contracts only: what a rewrite writes for the credentials of an image

-- the new text of a credential: empty if it is removed
abbrev pub new_text : CredParts → List ℕ
new_text c = if is_marked c then [] else credential V4 (in_version_4 c)

-- the new texts of the credentials that the bytes begin with
abbrev pub new_texts : Version → List ℕ → List ℕ
new_texts v bytes = flat_map new_text (contents (credentials_format v) bytes).cells

-- the bytes after the first enctype of the credential that the bytes begin with
unfoldable pub after_first_enctype : List ℕ → Option (List ℕ)
after_first_enctype bytes = do
  client ← cc_principal_at bytes
  server ← cc_principal_at client.1
  enctype ← number_at Big w16 server.1
  Some enctype.1

-- a credential was read, and `put` is its new text
pub record ReadsNewText (v : Version) (bytes put after : List ℕ) : Type 0 where
  pub cell : CredParts
  pub read : credential_at v bytes ≡ Some (cell, after)
  pub text : put ≡ new_text cell
