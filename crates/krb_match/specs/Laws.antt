-- Laws of the definitions.
use Rattle.std.specs.Prelude.{◌≡◌, ◌≢◌, ℕ, pos, List, Bool, true, false, ◌&&◌, ◌==◌, Option, Some, Ok}
use Rattle.std.specs.List.{list_any}
use Rattle.krb_wire.specs.Names.{have_same_name}
use Rattle.krb_keytab.specs.Find.{PlacedEntry, find_result, placed_entries}
use Rattle.krb_keytab.specs.Store.{KeytabState}
use Rattle.krb_ccache.specs.declared.ticket.TicketEncryption.{TicketEncryption}
use Rattle.krb_match.specs.declared.judgement.Judgement.{Judgement}
use Rattle.krb_match.specs.declared.judgement.Judgement.TheVariants.{Opens}
use Rattle.krb_match.specs.Match.{Ticket, asked_version, fits, judged}

-- an entry opens the ticket
abbrev pub opens : Judgement → Bool
opens (Opens place) = true
opens judgement = false

-- the ticket's encryption is this, and it is under no session key
pub record IsUnder (e : TicketEncryption) (t : Ticket) : Type 0 where
  pub own : t.is_skey ≡ 0
  pub encryption : t.encryption ≡ Some e

-- a ticket is opened iff an entry has its name and its enctype, and a version that fits
abbrev pub OpensWhereOneFits : Type 0
OpensWhereOneFits = (xs : List PlacedEntry) (t : Ticket) (kvno : Option ℕ) (etype : ℕ) → IsUnder (record { etype = pos etype; kvno = kvno }) t → opens (judged xs t) ≡ list_any (λ x. have_same_name t.name x.1.principal && (x.1.enctype == etype && fits (asked_version kvno) x.1.version)) xs

-- if a look-up finds an entry by a ticket's name, version and enctype, none of them 0, that opens it
abbrev pub OpensAsFound : Type 0
OpensAsFound = (k : KeytabState) (t : Ticket) (kvno etype : ℕ) (x : PlacedEntry) → IsUnder (record { etype = pos etype; kvno = Some kvno }) t → kvno ≢ 0 → etype ≢ 0 → find_result k t.name kvno etype ≡ Ok x → judged (placed_entries k) t ≡ Opens x.0
