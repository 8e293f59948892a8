-- What a keytab says of a ticket: that an entry opens it, or why none does.
use Rattle.std.specs.Prelude.{ℕ, zero, suc, ◌%◌, ◌==◌, ◌||◌, List, [], ◌∷◌, ◌++◌, filter, find, Bool, true, not, ℤ, pos, negsuc, Option, None, Some, unwrap_or, if◌then◌else◌}
use Rattle.std.specs.List.{list_any}
use Rattle.std.specs.Option.{option_or, option_map_or}
use Rattle.krb_wire.specs.Spelling.{Parts}
use Rattle.krb_wire.specs.Names.{have_same_name}
use Rattle.krb_keytab.specs.Find.{PlacedEntry}
use Rattle.krb_ccache.specs.declared.ticket.TicketEncryption.{TicketEncryption}
use Rattle.krb_ccache.specs.Credential.{CredParts}
use Rattle.krb_ccache.specs.Ticket.{ticket_encryption, ticket_server}
use Rattle.krb_audit.specs.Newest.{newest_from}
use Rattle.krb_match.specs.declared.judgement.Judgement.{Judgement}
use Rattle.krb_match.specs.declared.judgement.Judgement.TheVariants.{User, Unread, Name, Kvno, Etype, Opens}

-- ---- a ticket

-- what ktmatch knows of a ticket: whether it is under another ticket's session key, its own encryption, and its server's name
pub record Ticket : Type 0 where
  pub is_skey : ℕ
  pub encryption : Option TicketEncryption
  pub name : Parts

-- a credential's ticket, under a name
abbrev pub ticket_of : CredParts → Parts → Ticket
ticket_of c name = record { is_skey = c.is_skey; encryption = ticket_encryption c.ticket; name = name }

-- the name of a ticket's server: the one that the ticket itself has, or else its credential's
abbrev pub name_of : CredParts → Parts
name_of c = unwrap_or (ticket_server c.ticket) c.server

-- the kvno that a ticket asks for, unless it has none or 0
abbrev pub asked_version : Option ℕ → Option ℕ
asked_version None = None
asked_version (Some v) = if v == 0 then None else Some v

-- ---- entries for it

-- the entries of a name
abbrev pub named : Parts → List PlacedEntry → List PlacedEntry
named name xs = filter (λ x. have_same_name name x.1.principal) xs

-- an entry has a name
abbrev pub has_name : Parts → List PlacedEntry → Bool
has_name name xs = list_any (λ x. have_same_name name x.1.principal) xs

-- the kvno of an entry fits the one that a ticket asks for: it is equal, equal in eight bits, or 0; any fits if the ticket asks for none
abbrev pub fits : Option ℕ → ℕ → Bool
fits None v = true
fits (Some asked) v = v == asked || (v == asked % 256 || v == 0)

-- the entries whose version fits
abbrev pub fitting : Option ℕ → List PlacedEntry → List PlacedEntry
fitting asked xs = filter (λ x. fits asked x.1.version) xs

-- the enctype of an entry that is a ticket's, if that is not below 0
abbrev pub entry_etype : ℤ → Option ℕ
entry_etype (pos n) = Some n
entry_etype (negsuc n) = None

-- the newest version of entries of a name
abbrev pub newest_version : List PlacedEntry → ℕ
newest_version xs = option_map_or (λ e. e.version) (newest_from None xs) 0

-- the kvno that ktmatch looks for first: the one that the ticket asks for, or the newest
abbrev pub wanted : Option ℕ → List PlacedEntry → ℕ
wanted None xs = newest_version xs
wanted (Some asked) xs = asked

-- the entry that opens a ticket, of those of its name and enctype: the first of the kvno that is looked for, or else the first that fits
abbrev pub opener_among : Option ℕ → List PlacedEntry → Option PlacedEntry
opener_among asked xs = option_or (find (λ x. x.1.version == wanted asked xs) xs) (find (λ x. fits asked x.1.version) xs)

-- the entry that opens a ticket, of those of its name
abbrev pub opener : Option ℕ → Option ℕ → List PlacedEntry → Option PlacedEntry
opener asked None xs = None
opener asked (Some etype) xs = opener_among asked (filter (λ x. x.1.enctype == etype) xs)

-- an enctype is not one of those found so far
abbrev pub is_new : List ℕ → ℕ → Bool
is_new found etype = not (list_any (λ n. n == etype) found)

-- the enctypes found so far, and at most n more of entries, each once, in file order
unfoldable pub etypes_from : ℕ → List ℕ → List PlacedEntry → List ℕ
etypes_from zero found xs = found
etypes_from (suc n) found xs = option_map_or (λ x. etypes_from n (found ++ x.1.enctype ∷ []) xs) (find (λ x. is_new found x.1.enctype) xs) found

-- the enctypes of entries, each once, in file order: no more than nine, since eight are shown
abbrev pub etypes_of : List PlacedEntry → List ℕ
etypes_of xs = etypes_from 9 [] xs

-- ---- the judgement

-- why no entry of a ticket's name opens it: no kvno fits, or only entries of other enctypes fit
abbrev pub no_opener : ℕ → List ℕ → Judgement
no_opener newest [] = Kvno newest
no_opener newest (n ∷ ns) = Etype (n ∷ ns)

-- the entry opens the ticket, or why none does
abbrev pub opens_or : Judgement → Option PlacedEntry → Judgement
opens_or why None = why
opens_or why (Some x) = Opens x.0

-- what a keytab says of a ticket by the entries of its name
abbrev pub judged_among : TicketEncryption → List PlacedEntry → Judgement
judged_among e [] = Name
judged_among e (x ∷ xs) =
    opens_or (no_opener (newest_version (x ∷ xs)) (etypes_of (fitting (asked_version e.kvno) (x ∷ xs))))
    (opener (asked_version e.kvno) (entry_etype e.etype) (x ∷ xs))

-- what a keytab says of a ticket by the entries of its name, if the ticket's own encryption can be read
abbrev pub judged_read : List PlacedEntry → Option TicketEncryption → Judgement
judged_read xs None = Unread
judged_read xs (Some e) = judged_among e xs

-- a ticket, by the entries of a keytab
abbrev pub judged : List PlacedEntry → Ticket → Judgement
judged xs t = if t.is_skey == 0 then judged_read (named t.name xs) t.encryption else User
