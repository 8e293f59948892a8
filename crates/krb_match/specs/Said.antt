-- What is said of a ticket: the finding and the word of a judgement, and the ticket's line.
use Rattle.std.specs.Prelude.{ℕ, nat_lt, List, [], ◌∷◌, ◌++◌, length, take, Bool, true, false, codes, decimal, Option, None, Some, if◌then◌else◌}
use Rattle.std.specs.Fmt.{signed_decimal}
use Rattle.std.specs.Option.{option_map_or}
use Rattle.krb_ccache.specs.declared.ticket.TicketEncryption.{TicketEncryption}
use Rattle.krb_findings.specs.Table.{row_of}
use Rattle.krb_findings.specs.declared.finding.Finding.{Finding}
use Rattle.krb_findings.specs.declared.finding.Finding.TheVariants as finding
use Rattle.krb_match.specs.declared.judgement.Judgement.{Judgement}
use Rattle.krb_match.specs.declared.judgement.Judgement.TheVariants.{User, Unread, Name, Kvno, Etype, Opens}

-- what is found, unless an entry opens the ticket
abbrev pub finding_of : Judgement → Option Finding
finding_of User = Some finding.User
finding_of Unread = Some finding.Unread
finding_of Name = Some finding.Name
finding_of (Kvno newest) = Some finding.Kvno
finding_of (Etype etypes) = Some finding.Etype
finding_of (Opens place) = None

-- the word of a judgement
abbrev pub word_of : Judgement → List ℕ
word_of j = option_map_or (λ f. (row_of f).word) (finding_of j) (codes "opens")

-- a ticket counts for the status: the keytab does not open it, though a keytab could
abbrev pub is_wrong : Judgement → Bool
is_wrong j = option_map_or (λ f. (row_of f).counts) (finding_of j) false

-- ---- lines

-- a kvno as text, `-` if a ticket has none
abbrev pub kvno_text : Option ℕ → List ℕ
kvno_text None = codes "-"
kvno_text (Some kvno) = decimal kvno

-- the kvno and the enctype in the line of a ticket, if its encryption can be read
abbrev pub numbers : Option TicketEncryption → List ℕ
numbers None = []
numbers (Some e) = codes " kvno " ++ (kvno_text e.kvno ++ (codes " etype " ++ signed_decimal e.etype))

-- enctypes in the line of a ticket, with commas between them
abbrev pub etype_list : Bool → List ℕ → List ℕ
etype_list first [] = []
etype_list first (n ∷ ns) = (if first then [] else codes ",") ++ (decimal n ++ etype_list false ns)

-- at most eight enctypes in the line of a ticket, and `,..` if there are more
unfoldable pub etypes_text : List ℕ → List ℕ
etypes_text ns = etype_list true (take 8 ns) ++ (if nat_lt 8 (length ns) then codes ",.." else [])

-- what the line of a ticket has between its place and its name
abbrev pub details : Option TicketEncryption → Judgement → List ℕ
details e User = []
details e Unread = []
details e Name = numbers e
details e (Kvno newest) = numbers e ++ (codes " has " ++ decimal newest)
details e (Etype etypes) = numbers e ++ (codes " has " ++ etypes_text etypes)
details e (Opens place) = numbers e ++ (codes " at " ++ decimal place)

-- the line of a ticket: the word of what is said of it, its place, details and its name
abbrev pub judgement_line : ℕ → Option TicketEncryption → List ℕ → Judgement → List ℕ
judgement_line place e name j = word_of j ++ (codes " " ++ (decimal place ++ (details e j ++ (codes " " ++ (name ++ codes "\n")))))
