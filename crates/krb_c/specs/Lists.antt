-- Addresses and authorization data as C sees and gives them: the bytes of whole items, one after the other, without their number.
use Rattle.std.specs.Prelude.{ℕ, zero, suc, List, [], ◌∷◌, length, take, ◌+◌, ◌-◌, Option, Some, None}
use Rattle.std.specs.Int.{w32}
use Rattle.krb_wire.specs.declared.format.Order.TheVariants.{Big}
use Rattle.krb_wire.specs.Reading.{◌>>=◌, byte_at, number_at, list_end, cc_principal_at}
use Rattle.krb_ccache.specs.declared.version.Version.{Version}
use Rattle.krb_ccache.specs.Credential.{TypedData, typed_data_at, key_at, times_at}

-- the items of bytes, fewer than n of them, if the bytes are whole items
unfoldable pub items_within : ℕ → List ℕ → Option (List TypedData)
items_within zero bytes = None
items_within (suc n) [] = Some []
items_within (suc n) (b ∷ bs) = do
  item ← typed_data_at (b ∷ bs)
  items ← items_within n item.1
  Some (item.0 ∷ items)

-- the items that bytes are, if they are whole items
abbrev pub items_in : List ℕ → Option (List TypedData)
items_in bytes = items_within (length bytes + 1) bytes

-- ---- for private contracts alone

-- the bytes of the list that bytes begin with, without its count, and the bytes after it
unfoldable pub list_bytes_at : List ℕ → Option (List ℕ × List ℕ)
list_bytes_at bytes = do
  count ← number_at Big w32 bytes
  rest ← list_end typed_data_at count.0 count.1
  Some (take (length count.1 - length rest) count.1, rest)

-- the bytes of the two lists of the credential that bytes begin with
unfoldable pub lists_in : Version → List ℕ → Option (List ℕ × List ℕ)
lists_in v bytes = do
  client ← cc_principal_at bytes
  server ← cc_principal_at client.1
  key ← key_at v server.1
  times ← times_at key.1
  is_skey ← byte_at times.1
  flags ← number_at Big w32 is_skey.1
  addresses ← list_bytes_at flags.1
  authdata ← list_bytes_at addresses.1
  Some (addresses.0, authdata.0)
