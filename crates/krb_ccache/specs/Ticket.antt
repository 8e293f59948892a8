-- What a ticket has in its own bytes: its encryption (5.2.9) and its server (5.2.2) (RFC 4120 5.3).
use Rattle.std.specs.Prelude.{ℕ, suc, Bool, false, ◌^◌, ◌-◌, ◌==◌, ℤ, pos, negsuc, List, nat_lt, if◌then◌else◌, Option, None, Some, slice_index}
use Rattle.std.specs.Int.{w32, cast_unsigned}
use Rattle.krb_wire.specs.Reading.{◌>>=◌}
use Rattle.krb_wire.specs.Spelling.{Parts}
use Rattle.krb_ccache.specs.declared.ticket.TicketEncryption.{TicketEncryption}
use Rattle.krb_ccache.specs.declared.ticket.TicketServer.{TicketServer}
use Rattle.krb_ccache.specs.Der.{element_at, element_in, integer_at, strings_in}

-- a number as an Int32, as enctypes and name types are
abbrev pub int32_of : ℤ → Option ℤ
int32_of (pos n) = if nat_lt n (2 ^ 31) then Some (pos n) else None
int32_of (negsuc n) = if nat_lt n (2 ^ 31) then Some (negsuc n) else None

-- a number as a kvno, a UInt32; read-only domain controllers of Windows write one from 2 ^ 31 on as a number below 0
abbrev pub kvno_of : ℤ → Option ℕ
kvno_of (pos n) = if nat_lt n (2 ^ 32) then Some n else None
kvno_of (negsuc n) = if nat_lt n (2 ^ 31) then Some (2 ^ 32 - suc n) else None

-- the kvno, [1], that bytes of EncryptedData go on with, which may be missing, and the bytes after it
unfoldable pub kvno_at : List ℕ → Option (Option ℕ × List ℕ)
kvno_at bytes =
    if slice_index bytes 0 == 0xa1 then (do
      n ← integer_at 0xa1 bytes
      kvno ← kvno_of n.0
      Some (Some kvno, n.1))
    else Some (None, bytes)

-- the fields of EncryptedData: etype [0], perhaps kvno [1], and cipher [2]
unfoldable pub encrypted_data : List ℕ → Option TicketEncryption
encrypted_data fields = do
  n ← integer_at 0xa0 fields
  etype ← int32_of n.0
  kvno ← kvno_at n.1
  cipher ← element_in 0xa2 kvno.1
  Some (record { etype = etype; kvno = kvno.0 })

-- the version of the protocol
abbrev pub is_five : ℤ → Bool
is_five (pos n) = n == 5
is_five (negsuc n) = false

-- the fields of a ticket, [APPLICATION 1]: tkt-vno [0], realm [1], sname [2], and enc-part [3]; of realm and sname the content
unfoldable pub ticket_in : List ℕ → Option (List ℕ × List ℕ × TicketEncryption)
ticket_in bytes = do
  ticket ← element_in 0x61 bytes
  fields ← element_in 0x30 ticket
  version ← integer_at 0xa0 fields
  realm ← if is_five version.0 then element_at 0xa1 version.1 else None
  sname ← element_at 0xa2 realm.1
  enc_part ← element_in 0xa3 sname.1
  encrypted ← element_in 0x30 enc_part
  encryption ← encrypted_data encrypted
  Some (realm.0, sname.0, encryption)

-- the encryption of a ticket, whatever realm and sname are
unfoldable pub ticket_encryption : List ℕ → Option TicketEncryption
ticket_encryption bytes = do
  ticket ← ticket_in bytes
  Some ticket.2

-- the server in a ticket's realm and sname: name-type [0], which a cache keeps in 32 bits, and name-string [1]
unfoldable pub server_in : List ℕ → List ℕ → Option Parts
server_in realm sname = do
  realm ← element_in 0x1b realm
  fields ← element_in 0x30 sname
  n ← integer_at 0xa0 fields
  name_type ← int32_of n.0
  name_string ← element_in 0xa1 n.1
  strings ← element_in 0x30 name_string
  components ← strings_in strings
  Some (record { name_type = cast_unsigned w32 name_type; realm = realm; components = components })

-- the server that a ticket itself names
unfoldable pub ticket_server : List ℕ → Option Parts
ticket_server bytes = do
  ticket ← ticket_in bytes
  server_in ticket.0 ticket.1

-- the parts of a name that is borrowed from a ticket
abbrev pub server_parts : TicketServer → Parts
server_parts s = record { name_type = cast_unsigned w32 s.name_type; realm = s.realm.now; components = s.components }
