-- What a keytab says of the tickets of a cache, as a JSON value, and as its text.
use Rattle.std.specs.Prelude.{ℕ, List, [], ◌∷◌, ◌++◌, map, take, codes, Option, None, Some, option_and_then, option_map, ℤ, pos}
use Rattle.json.specs.Json.{Json, null, string}
use Rattle.krb_walk.specs.declared.fault.Fault.{Fault}
use Rattle.krb_ccache.specs.declared.ticket.TicketEncryption.{TicketEncryption}
use Rattle.krb_match.specs.declared.judgement.Judgement.{Judgement}
use Rattle.krb_match.specs.declared.judgement.Judgement.TheVariants.{Kvno, Etype, Opens}
use Rattle.krb_match.specs.Said.{word_of}
use Rattle.krb_match.specs.Tickets.{MatchedParts}
use Rattle.krb_json.specs.Cache.{integer_or_null}
use Rattle.krb_json.specs.Escaped.{json_text}
use Rattle.krb_json.specs.Members.{Member, array_of, fault_value, number_of, object_of, optional, text_member}

-- what the JSON of a ticket has of the keytab: the place of the entry that opens it, or the newest kvno of its name
abbrev pub found : Judgement → Option ℤ × Option ℤ
found (Opens place) = (Some (pos place), None)
found (Kvno newest) = (None, Some (pos newest))
found judgement = (None, None)

-- or at most eight enctypes
abbrev pub etypes_value : Judgement → Json
etypes_value (Etype etypes) = array_of (map number_of (take 8 etypes))
etypes_value judgement = null

-- the kvno and the enctype of a ticket as JSON, each null if it is not there
unfoldable pub ticket_numbers : Option TicketEncryption → List Member
ticket_numbers encryption =
    (codes "kvno", integer_or_null (option_and_then (λ e. option_map pos e.kvno) encryption))
    ∷ (codes "etype", integer_or_null (option_map (λ e. e.etype) encryption))
    ∷ []

-- what is said of a ticket
unfoldable pub judgement_members : Judgement → List Member
judgement_members j =
    (codes "match", string (word_of j))
    ∷ (codes "keytab_place", integer_or_null (found j).0)
    ∷ (codes "keytab_kvno", integer_or_null (found j).1)
    ∷ (codes "keytab_etypes", etypes_value j)
    ∷ []

-- a ticket
abbrev pub match_value : MatchedParts → Json
match_value t = object_of ((codes "place", number_of t.place) ∷ text_member (codes "name") t.name ∷ (ticket_numbers t.encryption ++ judgement_members t.judgement))

-- what comes before the tickets: the names of the files
unfoldable pub match_members : List ℕ → List ℕ → List Member
match_members keytab file = (codes "keytab", string keytab) ∷ (codes "file", string file) ∷ []

-- what ktmatch says of a cache as JSON, with both files' names, the fault and the status
unfoldable pub matches_value : List ℕ → List ℕ → List MatchedParts → Option Fault → ℕ → Json
matches_value keytab file ts fault status =
    object_of (
    match_members keytab file
    ++ ((codes "tickets", array_of (map match_value ts)) ∷ (codes "fault", fault_value fault) ∷ optional (codes "status") (Some status))
    )

-- the line that ktmatch --json prints of a cache
abbrev pub match_json_text : List ℕ → List ℕ → List MatchedParts → Option Fault → ℕ → List ℕ
match_json_text keytab file ts fault status = json_text (matches_value keytab file ts fault status) ++ codes "\n"
