-- Worked samples of the definitions: a keytab with host/a@R and b@R, each in version 3 with enctype 17.
use Rattle.krb_match.proofs.Cited.{refl, Parts, PlacedEntry, judged, TicketEncryption, Ticket, judgement_line, name_text, ◌≡◌, ℕ, List, [], ◌∷◌, ◌++◌, codes, pos, Option, None, Some}
use Rattle.krb_match.proofs.OnLiterals.{krb_match_on_literals}

abbrev in_realm : List (List ℕ) → Parts
in_realm components = record { name_type = 1; realm = codes "R"; components = components }

abbrev entry : ℕ → List (List ℕ) → ℕ → PlacedEntry
entry place components version = (place, record { principal = in_realm components; timestamp = 0; version = version; enctype = 17; key = [] })

-- the line of a ticket at 40
abbrev line_of : List PlacedEntry → List ℕ → ℕ → Option TicketEncryption → List ℕ
line_of xs host is_skey encryption =
    let t : Ticket = record { is_skey = is_skey; encryption = encryption; name = in_realm (host ∷ codes "a" ∷ []) } in
    judgement_line 40 encryption (name_text t.name) (judged xs t)

abbrev under : Option ℕ → ℕ → Option TicketEncryption
under kvno etype = Some (record { etype = pos etype; kvno = kvno })

-- each line in turn; of a version of more than eight bits a keytab may have the low ones alone
pub each : (let of = line_of (entry 2 (codes "host" ∷ codes "a" ∷ []) 3 ∷ entry 53 (codes "b" ∷ []) 3 ∷ []) in
    of (codes "host") 0 (under (Some 3) 17) ++ (of (codes "host") 0 (under (Some 4) 17) ++ (of (codes "host") 0 (under (Some 3) 18) ++ (of (codes "host") 0 (under (Some 259) 17)
    ++ (of (codes "Host") 0 (under (Some 3) 17) ++ (of (codes "host") 1 (under (Some 3) 17) ++ of (codes "host") 0 None))))))
    ≡ codes "opens 40 kvno 3 etype 17 at 2 host/a@R\nkvno 40 kvno 4 etype 17 has 3 host/a@R\netype 40 kvno 3 etype 18 has 17 host/a@R\nopens 40 kvno 259 etype 17 at 2 host/a@R\nname 40 kvno 3 etype 17 Host/a@R\nuser 40 host/a@R\nunread 40 host/a@R\n"
unfolding krb_match_on_literals
each = refl

-- a version is left out: the first entry of the newest opens the ticket
pub newest : (let a = entry in line_of (a 2 (codes "host" ∷ codes "a" ∷ []) 3 ∷ a 53 (codes "host" ∷ codes "a" ∷ []) 5 ∷ a 104 (codes "host" ∷ codes "a" ∷ []) 5 ∷ []) (codes "host") 0 (under None 17)) ≡ codes "opens 40 kvno - etype 17 at 53 host/a@R\n"
unfolding krb_match_on_literals
newest = refl
