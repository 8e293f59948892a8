-- What is written is read back.
use Rattle.krb_json.proofs.Cited.{◌≡◌, ℕ, ◌<◌, ◌≤◌, ◌^◌, Bool, true, false, cond, List, [], ◌∷◌, ◌++◌, codes, Option, None, Some, refl, sym, subst, arith, append_assoc, append-nil, is_utf8, depth, items_depth, members_depth, HasNumbers, name_text, CacheState, ConfigParts, PlacedCredential, placed_credentials, json_text, Member, object_of, array_of, mode_value, about_members, finding_value, finding_values, missing_value, check_value, refused_value, members_of, etype_members, file_members, text_member, text_or_null, fault_value, digits_of, number_of, ℤ, pos, option_map, integer_or_null, name_of_etype, own_members, party_members, size_members, flag_members, time_members, ticket_value, text_or_null_member, config_value, config_values, ticket_values, offset_value, offset_in, cache_members, cache_value, key_members, owner_members, entry_value, entry_values, keytab_value, check_members, etype_name_of, ticket_encryption, ticket_server, KeytabState, store_of, fault_of, CheckParts, ArePlain, items_of, map, take, option_and_then, Token, end_array, json_tokens, items_tokens, members_tokens, head_tokens, between_tokens, tail_tokens, ArePrintableOrBad-tokens, value-HasNumbers, value-json_tokens, tokens, ArePrintableOrBad as Printed, print, MatchedParts, Fault, etypes_value, found, judgement_members, match_members, match_value, matches_value, ticket_numbers, name_members, summary_value}
use Rattle.json.specs.Json.{Json, string, document}
use Rattle.json.proofs.Printed.Decimals.{IsNumber-decimal}
use Rattle.krb_wire.specs.Spelling.{Parts, version_byte}
use Rattle.krb_keytab.specs.Find.{PlacedEntry}
use Rattle.krb_ccache.specs.Store as cache
use Rattle.krb_ccache.specs.declared.offset.Offset.{Offset}
use Rattle.krb_ccache.specs.declared.ticket.TicketEncryption.{TicketEncryption}
use Rattle.krb_findings.specs.declared.finding.Finding.{Finding}
use Rattle.krb_match.specs.declared.judgement.Judgement.{Judgement}
use Rattle.krb_match.specs.declared.judgement.Judgement.TheVariants.{Etype}
use Rattle.krb_json.specs.declared.summary.CacheSummary.{CacheSummary}
use Rattle.krb_json.proofs.Arrays.{members_end_object, split_at_array}
use Rattle.krb_json.proofs.EscapedReads.{document-text}

-- ---- how deep values nest

text_depth : (name text : List ℕ) → depth (text_member name text).1 ≡ 0
unfolding text_member
text_depth name text =
    elim (is_utf8 text) as (λ b. depth (cond {A = Member} b (name, string text) (name ++ codes "_hex", digits_of text)).1 ≡ 0) [ true ↦ refl | false ↦ refl ]

or_null_depth : (o : Option (List ℕ)) → depth (text_or_null o) ≡ 0
or_null_depth o = grind arith

key_depth : (is_shown : Bool) (key : List ℕ) → members_depth (members_of (key_members is_shown key)) ≤ 0
unfolding key_members
key_depth is_shown key = grind arith

pub entry_flat : (shows_keys : Bool) (x : PlacedEntry) → depth (entry_value shows_keys x) ≤ 2
unfolding entry_value owner_members etype_members
entry_flat shows_keys x =
    omega (arith, text_depth (codes "principal") (name_text x.1.principal), or_null_depth (etype_name_of x.1.enctype), key_depth shows_keys x.1.key)

integer_depth : (o : Option ℤ) → depth (integer_or_null o) ≡ 0
integer_depth o = grind arith

member_depth : (name : List ℕ) (o : Option (List ℕ)) → depth (text_or_null_member name o).1 ≡ 0
member_depth name o = grind (arith, text_depth)

own_depth : (o : Option TicketEncryption) (server : Option Parts) → members_depth (members_of (own_members o server)) ≡ 0
unfolding own_members
own_depth None server = omega (arith, member_depth (codes "ticket_server") (option_map name_text server))
own_depth (Some e) server = omega (arith, or_null_depth (name_of_etype e.etype), integer_depth (option_map pos e.kvno), member_depth (codes "ticket_server") (option_map name_text server))

pub ticket_flat : (x : PlacedCredential) → depth (ticket_value x) ≤ 2
unfolding ticket_value party_members time_members flag_members etype_members size_members
ticket_flat x =
    omega (
      arith,
      text_depth (codes "client") (name_text x.1.client),
      text_depth (codes "server") (name_text x.1.server),
      or_null_depth (etype_name_of x.1.key.enctype),
      own_depth (ticket_encryption x.1.ticket) (ticket_server x.1.ticket),
    )

pub config_flat : (place : ℕ) (name : ConfigParts) (value : List ℕ) → depth (config_value place name value) ≤ 2
unfolding config_value
config_flat place name value = omega (arith, text_depth (codes "key") name.key, member_depth (codes "principal") name.principal, text_depth (codes "value") value)

mode_depth : (mode : Option ℕ) → depth (mode_value mode) ≡ 0
mode_depth mode = grind arith

pub file_finding_flat : (finding : Finding) → depth (finding_value finding []) ≤ 2
file_finding_flat finding = omega arith

pub entry_finding_flat : (finding : Finding) (first : Option ℕ) (x : PlacedEntry) → depth (finding_value finding (about_members first x)) ≤ 2
unfolding about_members
entry_finding_flat finding first x = grind (arith, text_depth (codes "principal") (name_text x.1.principal))

pub name_finding_flat : (finding : Finding) (kvno : Option ℕ) (name : Parts) → depth (finding_value finding (name_members kvno name)) ≤ 2
unfolding name_members
name_finding_flat finding kvno name = grind (arith, text_depth (codes "principal") (name_text name))

pub missing_flat : (name : List ℕ) → depth (missing_value name) ≤ 2
missing_flat name = omega (arith, text_depth (codes "principal") name)

numbers_depth : (ns : List ℕ) → items_depth (items_of (map number_of ns)) ≡ 0
numbers_depth [] = refl
numbers_depth (n ∷ ns) = omega (arith, numbers_depth ns)

etypes_depth : (j : Judgement) → depth (etypes_value j) ≤ 1
etypes_depth (Etype etypes) = omega (arith, numbers_depth (take 8 etypes))
etypes_depth _ = omega arith

pub match_flat : (t : MatchedParts) → depth (match_value t) ≤ 2
unfolding ticket_numbers judgement_members
match_flat t =
    omega (
      arith,
      text_depth (codes "name") t.name,
      integer_depth (option_and_then (λ e. option_map pos e.kvno) t.encryption),
      integer_depth (option_map (λ e. e.etype) t.encryption),
      integer_depth (found t.judgement).0,
      integer_depth (found t.judgement).1,
      etypes_depth t.judgement,
    )

fault_depth : (o : Option Fault) → depth (fault_value o) ≤ 1
fault_depth o = grind arith

offset_depth : (o : Option Offset) → depth (offset_value o) ≤ 1
offset_depth o = grind arith

plain_depth : (vs : List Json) → ArePlain vs → items_depth (items_of vs) ≤ 2
plain_depth [] h = omega arith
plain_depth (v ∷ vs) h = omega (arith, h.0.flat, plain_depth vs h.1)

-- ---- what was printed

pub tokens_printed : (ts : List Token) → tokens (print ts) ≡ ts → Printed ts
tokens_printed ts e = subst Printed e (ArePrintableOrBad-tokens (print ts))

printed_append : (ts us : List Token) → Printed ts → Printed us → Printed (ts ++ us)
printed_append [] us h k = k
printed_append (t ∷ ts) us h k = (h.0, printed_append ts us h.1 k)

items_printed : (vs : List Json) (ts : List Token) → ArePlain vs → Printed (end_array ∷ ts) → Printed (items_tokens (items_of vs) ++ ts)
items_printed [] ts h k = k
items_printed (v ∷ vs) ts h k = rw (append_assoc (json_tokens v) (items_tokens (items_of vs)) ts) (printed_append (json_tokens v) _ h.0.printed (items_printed vs ts h.1 k))

tail_printed : (ns : List Member) → Printed (tail_tokens ns) → Printed (end_array ∷ members_tokens (members_of ns))
tail_printed ns h = rw (members_end_object ns) h

-- a value is read back that was printed
value_is_read : (v : Json) → Printed (json_tokens v) → depth v ≤ 128 → document (json_text v) ≡ Some v
value_is_read v printed shallow =
    document-text v (value-HasNumbers (depth v) (json_tokens v ++ []) [] v (rw (append-nil (json_tokens v)) printed) (value-json_tokens v (depth v) [] (omega arith))) shallow

-- so is an object with one array
object_is_read : (ms ns : List Member) (name : List ℕ) (vs : List Json) → Printed (head_tokens ms name) → ArePlain vs → Printed (tail_tokens ns) → depth (object_of (ms ++ (name, array_of vs) ∷ ns)) ≤ 128
    → document (json_text (object_of (ms ++ (name, array_of vs) ∷ ns))) ≡ Some (object_of (ms ++ (name, array_of vs) ∷ ns))
object_is_read ms ns name vs head plain tail =
    value_is_read _ (subst Printed (sym (split_at_array ms ns name vs)) (printed_append (head_tokens ms name) _ head (items_printed vs _ plain (tail_printed ns tail))))

-- ---- files

pub keytab_is_read : (file : List ℕ) (shows_keys : Bool) (k : KeytabState) → Printed (head_tokens (file_members file (codes "keytab") (version_byte k.format)) (codes "entries")) → ArePlain (entry_values shows_keys k) → Printed (tail_tokens ((codes "fault", fault_value (fault_of (store_of k))) ∷ []))
    → document (json_text (keytab_value file shows_keys k)) ≡ Some (keytab_value file shows_keys k)
unfolding keytab_value file_members
keytab_is_read file shows_keys k head entries tail =
    let flat : depth (keytab_value file shows_keys k) ≤ 128 = omega (arith, plain_depth (entry_values shows_keys k) entries, fault_depth (fault_of (store_of k))) in
    object_is_read (file_members file (codes "keytab") (version_byte k.format)) ((codes "fault", fault_value (fault_of (store_of k))) ∷ []) (codes "entries") (entry_values shows_keys k) head entries tail flat

pub check_is_read : (file : List ℕ) (c : CheckParts) (status : ℕ) → Printed (head_tokens (check_members file c.mode c.counts) (codes "findings")) → ArePlain (finding_values c) → Printed (tail_tokens ((codes "fault", fault_value c.fault) ∷ (codes "status", number_of status) ∷ []))
    → document (json_text (check_value file c status)) ≡ Some (check_value file c status)
unfolding check_value check_members
check_is_read file c status head findings tail =
    let flat : depth (check_value file c status) ≤ 128 = omega (arith, mode_depth c.mode, plain_depth (finding_values c) findings, fault_depth c.fault) in
    object_is_read (check_members file c.mode c.counts) ((codes "fault", fault_value c.fault) ∷ (codes "status", number_of status) ∷ []) (codes "findings") (finding_values c) head findings tail flat

pub match_is_read : (keytab file : List ℕ) (ts : List MatchedParts) (fault : Option Fault) (status : ℕ) → Printed (head_tokens (match_members keytab file) (codes "tickets")) → ArePlain (map match_value ts) → Printed (tail_tokens ((codes "fault", fault_value fault) ∷ (codes "status", number_of status) ∷ []))
    → document (json_text (matches_value keytab file ts fault status)) ≡ Some (matches_value keytab file ts fault status)
unfolding matches_value match_members
match_is_read keytab file ts fault status head tickets tail =
    let flat : depth (matches_value keytab file ts fault status) ≤ 128 = omega (arith, plain_depth (map match_value ts) tickets, fault_depth fault) in
    object_is_read (match_members keytab file) ((codes "fault", fault_value fault) ∷ (codes "status", number_of status) ∷ []) (codes "tickets") (map match_value ts) head tickets tail flat

pub cache_is_read : (file : List ℕ) (k : CacheState) → Printed (head_tokens (cache_members file k) (codes "tickets")) → ArePlain (ticket_values (placed_credentials k)) → ArePlain (config_values (placed_credentials k)) → Printed (tail_tokens ((codes "fault", fault_value (fault_of (cache.store_of k))) ∷ []))
    → document (json_text (cache_value file k)) ≡ Some (cache_value file k)
unfolding cache_value cache_members file_members
cache_is_read file k head tickets configs tail =
    let ts = ticket_values (placed_credentials k) in
    let cs = config_values (placed_credentials k) in
    let fault : List Member = (codes "fault", fault_value (fault_of (cache.store_of k))) ∷ [] in
    let rest = items_printed ts _ tickets (printed_append (between_tokens (codes "config")) _ (tt, (tt, (tt, tt))) (items_printed cs _ configs (tail_printed fault tail))) in
    value_is_read _ (subst Printed (sym (split_at_array (cache_members file k) ((codes "config", array_of cs) ∷ fault) (codes "tickets") ts)) (printed_append (head_tokens (cache_members file k) (codes "tickets")) _ head rest))
    (omega (
      arith,
      text_depth (codes "default_principal") (name_text k.principal),
      offset_depth (offset_in k.header),
      plain_depth ts tickets,
      plain_depth cs configs,
      fault_depth (fault_of (cache.store_of k)),
    ))

text_numbers : (name text : List ℕ) → HasNumbers (text_member name text).1
unfolding text_member
text_numbers name text =
    elim (is_utf8 text) as (λ b. HasNumbers (cond {A = Member} b (name, string text) (name ++ codes "_hex", digits_of text)).1) [ true ↦ tt | false ↦ tt ]

pub refused_is_read : (file error : List ℕ) (status : ℕ) → status < 2 ^ 8 → document (json_text (refused_value file error status)) ≡ Some (refused_value file error status)
unfolding refused_value
refused_is_read file error status small =
    document-text (refused_value file error status) (tt, (text_numbers (codes "error") error, (IsNumber-decimal status (omega arith), tt)))
    (omega (arith, text_depth (codes "error") error))

pub summary_is_read : (file : List ℕ) (p : Parts) (s : CacheSummary) → Printed (json_tokens (summary_value file p s)) → document (json_text (summary_value file p s)) ≡ Some (summary_value file p s)
unfolding summary_value
summary_is_read file p s printed = value_is_read _ printed (omega (arith, text_depth (codes "default_principal") (name_text p), integer_depth (option_map pos s.endtime)))
