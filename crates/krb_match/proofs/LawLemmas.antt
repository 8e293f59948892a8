-- Which tickets are opened, and by which entry.
use Rattle.krb_match.proofs.Cited.{◌≡◌, ◌∙◌, ap, ap₂, refl, arith, ℕ, Bool, cond, List, [], ◌∷◌, ◌==◌, ◌||◌, ◌&&◌, Option, Some, None, filter, find, list_any, is_some, ne_eqb, PlacedEntry, placed_entries, have_same_name, asked_version, entry_etype, fits, judged, judged_among, named, opener, opener_among, TicketEncryption, find_result, is_match, look_up_in, KeytabState, Ticket, Opens, ◌≢◌, pos, Result, Ok, Err, any_left, some_found}
use Rattle.krb_walk.specs.declared.refusal.Code.{Code}
use Rattle.krb_walk.specs.declared.refusal.Code.TheVariants.{Damaged}
use Rattle.krb_match.specs.Laws.{IsUnder, opens}
use Rattle.krb_match.proofs.Judging.{filter_filter}

-- ---- one fits

-- what passes one test passes the other
any_weaker : {X : Type 0} (t q : X → Bool) → ((x : X) → (t x || q x) ≡ q x) → (xs : List X) → (list_any t xs || list_any q xs) ≡ list_any q xs
any_weaker t q each [] = refl
any_weaker t q each (x ∷ xs) = grind (arith, each x, any_weaker t q each xs)

some_opener : (asked : Option ℕ) (xs : List PlacedEntry) → is_some (opener_among asked xs) ≡ list_any (λ x. fits asked x.1.version) xs
some_opener asked xs = search (arith, some_found, any_weaker)

opens_among : (kvno : Option ℕ) (etype : ℕ) (xs : List PlacedEntry) → opens (judged_among (record { etype = pos etype; kvno = kvno }) xs) ≡ list_any (λ x. x.1.enctype == etype && fits (asked_version kvno) x.1.version) xs
opens_among kvno etype [] = refl
opens_among kvno etype (y ∷ ys) =
    let asked = asked_version kvno in
    let there = filter (λ x. x.1.enctype == etype) (y ∷ ys) in
    grind (arith, some_opener asked there, any_left (λ x. x.1.enctype == etype) (λ x. fits asked x.1.version) (y ∷ ys))

-- the judgement of a ticket that is read
judged_is : (xs : List PlacedEntry) (t : Ticket) (e : TicketEncryption) → IsUnder e t → judged xs t ≡ judged_among e (named t.name xs)
judged_is xs t e u = ap₂ (λ (n : ℕ) (o : Option TicketEncryption). judged xs (record { is_skey = n; encryption = o; name = t.name })) u.own u.encryption

pub one_fits : (xs : List PlacedEntry) (t : Ticket) (kvno : Option ℕ) (etype : ℕ) → IsUnder (record { etype = pos etype; kvno = kvno }) t → opens (judged xs t) ≡ list_any (λ x. have_same_name t.name x.1.principal && (x.1.enctype == etype && fits (asked_version kvno) x.1.version)) xs
one_fits xs t kvno etype u = search (arith, judged_is, opens_among, any_left)

-- ---- found

not_damaged : (damaged : Bool) (r : Result PlacedEntry Code) (x : PlacedEntry) → cond damaged (Err Damaged) r ≡ Ok x → r ≡ Ok x
not_damaged damaged r x e = search arith

-- of a name and an enctype
matches : (t : Ticket) (etype : ℕ) → etype ≢ 0 → (xs : List PlacedEntry) → filter (is_match t.name etype) xs ≡ filter (λ x. x.1.enctype == etype) (named t.name xs)
matches t etype some xs = search (arith, filter_filter, ne_eqb)

found_first : (kvno : ℕ) (xs : List PlacedEntry) (x : PlacedEntry) → kvno ≢ 0 → look_up_in kvno xs ≡ Ok x → find (λ y. y.1.version == kvno) xs ≡ Some x
found_first kvno xs x some e = search (arith, ne_eqb)

-- of entries of the name one opens it
opened : (e : TicketEncryption) (xs : List PlacedEntry) (x : PlacedEntry) → opener (asked_version e.kvno) (entry_etype e.etype) xs ≡ Some x → judged_among e xs ≡ Opens x.0
opened e xs x is = search arith

pub found_opens : (k : KeytabState) (t : Ticket) (kvno etype : ℕ) (x : PlacedEntry) → IsUnder (record { etype = pos etype; kvno = Some kvno }) t → kvno ≢ 0 → etype ≢ 0 → find_result k t.name kvno etype ≡ Ok x → judged (placed_entries k) t ≡ Opens x.0
found_opens k t kvno etype x u some some_etype e =
    let under : TicketEncryption = record { etype = pos etype; kvno = Some kvno } in
    let there = filter (λ x. x.1.enctype == etype) (named t.name (placed_entries k)) in
    let looked : look_up_in kvno there ≡ Ok x = search (arith, matches t etype some_etype, not_damaged, e) in
    let asked : asked_version (Some kvno) ≡ Some kvno = ap (λ (b : Bool). cond b None (Some kvno)) (ne_eqb kvno 0 some) in
    judged_is (placed_entries k) t under u
    ∙ opened under (named t.name (placed_entries k)) x (grind (arith, asked, found_first kvno there x some looked))
