-- What the calls return that read the header of a cache and the bytes of its tickets.
use Rattle.std.specs.Prelude.{◌≡◌, ℕ, ℤ, List, Option, Some, None, option_map, unwrap_or, is_some}
use Rattle.krb_wire.specs.Names.{name_text}
use Rattle.krb_ccache.specs.declared.offset.Offset.{Offset}
use Rattle.krb_ccache.specs.declared.ticket.TicketEncryption.{TicketEncryption}
use Rattle.krb_ccache.specs.Credential.{CredParts}
use Rattle.krb_ccache.specs.Ticket.{ticket_encryption, ticket_server}
use Rattle.krb_c.specs.declared.cache.changes.KrbfNameTypes.{KrbfNameTypes}
use Rattle.krb_c.specs.declared.cache.own.KrbfEncryption.{KrbfEncryption}
use Rattle.krb_c.specs.CacheLooks.{flag}
use Rattle.krb_c.specs.Text.{CopiesTextOr}

-- a time offset is reported; 39 if there is none
abbrev pub ReportsOffset : Option Offset → ℕ → ℤ → ℤ → ℤ → ℤ → Type 0
ReportsOffset (Some o) status seconds new_seconds micros new_micros = (status ≡ 0) × (new_seconds ≡ o.seconds) × (new_micros ≡ o.micros)
ReportsOffset None status seconds new_seconds micros new_micros = (status ≡ 39) × (new_seconds ≡ seconds) × (new_micros ≡ micros)

-- what C sees of an encryption; without a version, kvno and has_kvno are 0
abbrev pub seen_encryption : TicketEncryption → KrbfEncryption
seen_encryption e = record { enctype = e.etype; kvno = unwrap_or e.kvno 0; has_kvno = flag (is_some e.kvno) }

-- an encryption is shown; 39 if there is none
abbrev pub ShowsEncryption : Option TicketEncryption → ℕ → KrbfEncryption → KrbfEncryption → Type 0
ShowsEncryption (Some e) status seen new_seen = (status ≡ 0) × (new_seen ≡ seen_encryption e)
ShowsEncryption None status seen new_seen = (status ≡ 39) × (new_seen ≡ seen)

-- the encryption of the ticket at a place, by its own bytes, is shown; 35 if nothing is there
abbrev pub ShowsEncryptionAt : Option CredParts → ℕ → KrbfEncryption → KrbfEncryption → Type 0
ShowsEncryptionAt (Some c) status seen new_seen = ShowsEncryption (ticket_encryption c.ticket) status seen new_seen
ShowsEncryptionAt None status seen new_seen = (status ≡ 35) × (new_seen ≡ seen)

-- the text of the server that the ticket at a place names itself is reported: 39 if it names none, 35 if nothing is there
abbrev pub CopiesOwnServer : Option CredParts → ℕ → List ℕ → List ℕ → ℕ → ℕ → Type 0
CopiesOwnServer (Some c) = CopiesTextOr 39 (option_map name_text (ticket_server c.ticket))
CopiesOwnServer None = CopiesTextOr 35 None

-- the types of the names of the ticket at a place are shown; 35 if nothing is there
abbrev pub ShowsNameTypes : Option CredParts → ℕ → KrbfNameTypes → KrbfNameTypes → Type 0
ShowsNameTypes (Some c) status seen new_seen = (status ≡ 0) × (new_seen ≡ record { client = c.client.name_type; server = c.server.name_type })
ShowsNameTypes None status seen new_seen = (status ≡ 35) × (new_seen ≡ seen)
