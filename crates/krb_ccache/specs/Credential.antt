-- Credentials: fields, spelling and reading; the removed mark is krbfile's own (MIT ccache format, credential).
use Rattle.std.specs.Prelude.{option_map, ◌≡◌, ℕ, ◌<◌, ◌^◌, ◌==◌, Bool, ◌&&◌, List, [], ◌∷◌, ◌++◌, length, map, Option, Some, Vec}
use Rattle.std.specs.Borrow.{Bor}
use Rattle.std.specs.Vec.{vec_items}
use Rattle.std.specs.List.{flat_map, AllByRecursion}
use Rattle.std.specs.Int.{w16, w32}
use Rattle.krb_wire.specs.declared.format.Order.TheVariants.{Big}
use Rattle.krb_wire.specs.Spelling.{Parts, digits, data32, cc_principal, IsLong, FitsCc}
use Rattle.krb_wire.specs.Reading.{◌>>=◌, byte_at, number_at, data32_at, list_at, cc_principal_at}
use Rattle.krb_ccache.specs.declared.version.Version.{Version}
use Rattle.krb_ccache.specs.declared.version.Version.TheVariants.{V3, V4}
use Rattle.krb_ccache.specs.declared.credential.times.Times.{Times}

-- an address, or an element of authorization data: a type and bytes
pub record TypedData : Type 0 where
  pub kind : ℕ
  pub bytes : List ℕ

-- a session key and its enctype; version 3 writes the enctype twice, and the second one is read and not used
pub record Key : Type 0 where
  pub enctype : ℕ
  pub second_enctype : ℕ
  pub bytes : List ℕ

-- a credential: client, server, session key, times, flags, addresses, authorization data, the ticket, and the second ticket
pub record CredParts : Type 0 where
  pub client : Parts
  pub server : Parts
  pub key : Key
  pub times : Times
  pub is_skey : ℕ
  pub flags : ℕ
  pub addresses : List TypedData
  pub authdata : List TypedData
  pub ticket : List ℕ
  pub second_ticket : List ℕ

-- times are the removed mark, which is krbfile's own: endtime 0 and the greatest authtime
abbrev pub is_mark : Times → Bool
is_mark t = t.endtime == 0 && t.authtime == 4294967295

-- times with the removed mark
abbrev pub marked_times : Times → Times
marked_times t = record { authtime = 4294967295; starttime = t.starttime; endtime = 0; renew_till = t.renew_till }

-- a credential is removed: its times are the removed mark
abbrev pub is_marked : CredParts → Bool
is_marked c = is_mark c.times

-- ---- spelling

-- the four bytes of a number, big-endian
abbrev pub number32 : ℕ → List ℕ
number32 n = digits Big w32 n

-- the bytes of an address or an element: its type, its length and its bytes
abbrev pub typed_data : TypedData → List ℕ
typed_data x = digits Big w16 x.kind ++ data32 Big x.bytes

-- the bytes of a list of addresses or elements: their number, and each of them
abbrev pub typed_list : List TypedData → List ℕ
typed_list xs = number32 (length xs) ++ flat_map typed_data xs

-- the second enctype of a session key, which version 4 does not have
abbrev pub second_enctype_field : Version → ℕ → List ℕ
second_enctype_field V3 n = digits Big w16 n
second_enctype_field V4 n = []

-- the bytes of a session key: the enctype, in version 3 twice, and the key
abbrev pub key : Version → Key → List ℕ
key v k = digits Big w16 k.enctype ++ (second_enctype_field v k.second_enctype ++ data32 Big k.bytes)

-- the bytes of a credential's four times
abbrev pub times : Times → List ℕ
times t = number32 t.authtime ++ (number32 t.starttime ++ (number32 t.endtime ++ number32 t.renew_till))

-- the bytes of a credential
abbrev pub credential : Version → CredParts → List ℕ
credential v c =
    cc_principal c.client ++ (cc_principal c.server ++ (key v c.key ++ (times c.times
    ++ ((c.is_skey ∷ []) ++ (number32 c.flags ++ (typed_list c.addresses ++ (typed_list c.authdata
    ++ (data32 Big c.ticket ++ data32 Big c.second_ticket))))))))

-- ---- what has a spelling

-- its numbers and lengths fit their fields
pub record FitsTypedData (x : TypedData) : Type 0 where
  pub kind : x.kind < 2 ^ 16
  pub bytes : IsLong x.bytes

-- each item fits, and the number of items fits its field
pub record FitsTypedList (xs : List TypedData) : Type 0 where
  pub count : length xs < 2 ^ 32
  pub each : AllByRecursion FitsTypedData xs

-- a second enctype that the version can write: in version 4 it is 0
abbrev pub FitsSecondEnctype : Version → ℕ → Type 0
FitsSecondEnctype V3 n = n < 2 ^ 16
FitsSecondEnctype V4 n = n ≡ 0

-- its numbers and its length fit their fields
pub record FitsKey (v : Version) (k : Key) : Type 0 where
  pub enctype : k.enctype < 2 ^ 16
  pub second_enctype : FitsSecondEnctype v k.second_enctype
  pub bytes : IsLong k.bytes

-- its numbers fit their fields
pub record FitsTimes (t : Times) : Type 0 where
  pub authtime : t.authtime < 2 ^ 32
  pub starttime : t.starttime < 2 ^ 32
  pub endtime : t.endtime < 2 ^ 32
  pub renew_till : t.renew_till < 2 ^ 32

-- all numbers, lengths and counts of a credential fit their fields
pub record FitsCredential (v : Version) (c : CredParts) : Type 0 where
  pub client : FitsCc c.client
  pub server : FitsCc c.server
  pub key : FitsKey v c.key
  pub times : FitsTimes c.times
  pub is_skey : c.is_skey < 256
  pub flags : c.flags < 2 ^ 32
  pub addresses : FitsTypedList c.addresses
  pub authdata : FitsTypedList c.authdata
  pub ticket : IsLong c.ticket
  pub second_ticket : IsLong c.second_ticket

-- ---- reading

-- the address or element that bytes begin with, and the bytes after it
unfoldable pub typed_data_at : List ℕ → Option (TypedData × List ℕ)
typed_data_at bytes = do
  kind ← number_at Big w16 bytes
  text ← data32_at Big kind.1
  Some (record { kind = kind.0; bytes = text.0 }, text.1)

-- the list of addresses or elements that bytes begin with, and the bytes after it
unfoldable pub typed_list_at : List ℕ → Option (List TypedData × List ℕ)
typed_list_at bytes = do
  count ← number_at Big w32 bytes
  list_at typed_data_at count.0 count.1

-- the second enctype that bytes begin with; in version 4, where none is written, 0
abbrev pub second_enctype_at : Version → List ℕ → Option (ℕ × List ℕ)
second_enctype_at V3 bytes = number_at Big w16 bytes
second_enctype_at V4 bytes = Some (0, bytes)

-- the session key that bytes begin with, and the bytes after it
unfoldable pub key_at : Version → List ℕ → Option (Key × List ℕ)
key_at v bytes = do
  enctype ← number_at Big w16 bytes
  again ← second_enctype_at v enctype.1
  text ← data32_at Big again.1
  Some (record { enctype = enctype.0; second_enctype = again.0; bytes = text.0 }, text.1)

-- the four times that bytes begin with, and the bytes after them
unfoldable pub times_at : List ℕ → Option (Times × List ℕ)
times_at bytes = do
  authtime ← number_at Big w32 bytes
  starttime ← number_at Big w32 authtime.1
  endtime ← number_at Big w32 starttime.1
  renew_till ← number_at Big w32 endtime.1
  Some (record { authtime = authtime.0; starttime = starttime.0; endtime = endtime.0; renew_till = renew_till.0 }, renew_till.1)

-- the credential that bytes begin with, and the bytes after it
unfoldable pub credential_at : Version → List ℕ → Option (CredParts × List ℕ)
credential_at v bytes = do
  client ← cc_principal_at bytes
  server ← cc_principal_at client.1
  key ← key_at v server.1
  times ← times_at key.1
  is_skey ← byte_at times.1
  flags ← number_at Big w32 is_skey.1
  addresses ← typed_list_at flags.1
  authdata ← typed_list_at addresses.1
  ticket ← data32_at Big authdata.1
  second ← data32_at Big ticket.1
  Some (
    record {
      client = client.0;
      server = server.0;
      key = key.0;
      times = times.0;
      is_skey = is_skey.0;
      flags = flags.0;
      addresses = addresses.0;
      authdata = authdata.0;
      ticket = ticket.0;
      second_ticket = second.0;
    },
    second.1,
  )

-- ---- with memory of its own

-- an owned item, without the address of its bytes
abbrev pub owned_typed : {A : Type 0} → ℕ × Vec ℕ A → TypedData
owned_typed x = record { kind = x.0; bytes = vec_items x.1 }

-- owned items, in order
abbrev pub owned_list : {A : Type 0} → List (ℕ × Vec ℕ A) → List TypedData
owned_list xs = map owned_typed xs

-- a session key whose enctype is written once
abbrev pub plain_key : ℕ → List ℕ → Key
plain_key enctype bytes = record { enctype = enctype; second_enctype = 0; bytes = bytes }

-- a credential as version 4 has it, with one enctype
abbrev pub in_version_4 : CredParts → CredParts
in_version_4 c = record c { key = plain_key c.key.enctype c.key.bytes }

-- ---- for private contracts

-- a borrowed item, without the address of its bytes
abbrev pub typed_data_of : ℕ × Bor (List ℕ) → TypedData
typed_data_of x = record { kind = x.0; bytes = x.1.now }

-- its fields between the names and the lists, as version 4 spells them
abbrev pub middle_text : CredParts → List ℕ
middle_text c = key V4 c.key ++ (times c.times ++ ((c.is_skey ∷ []) ++ number32 c.flags))

-- its lists and tickets
abbrev pub lists_text : CredParts → List ℕ
lists_text c = typed_list c.addresses ++ (typed_list c.authdata ++ (data32 Big c.ticket ++ data32 Big c.second_ticket))

-- the credential that bytes begin with
abbrev pub credential_in : Version → List ℕ → Option CredParts
credential_in v bytes = option_map (λ x. x.0) (credential_at v bytes)
