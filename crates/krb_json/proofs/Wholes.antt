-- The text of a file, in pieces.
use Rattle.krb_json.proofs.Cited.{◌≡◌, ℕ, Option, map, Bool, false, List, [], ◌∷◌, ◌++◌, codes, refl, ap, ◌∙◌, append_assoc, Json, end_array, json_tokens, members_tokens, CacheState, placed_credentials, text_of, Member, members_of, object_of, array_of, fault_value, file_members, entry_values, keytab_value, keytab_json_text, check_members, finding_values, check_value, check_json_text, optional, Some, ticket_values, config_values, cache_members, cache_value, cache_json_text, elements_text, head_tokens, between_tokens, tail_tokens, arrays_text, fault_of, KeytabState, store_of, CheckParts, MatchedParts, Fault, match_json_text, match_members, match_value, matches_value}
use Rattle.krb_wire.specs.Spelling.{version_byte}
use Rattle.krb_ccache.specs.Store as cache
use Rattle.krb_json.proofs.Arrays.{object_print, rest_print, members_end_object}

tail_print : (ns : List Member) → text_of (end_array ∷ members_tokens (members_of ns)) ≡ text_of (tail_tokens ns)
tail_print ns = ap (λ l. text_of (end_array ∷ l)) (members_end_object ns)

regroup_three : (a b c n : List ℕ) → (a ++ (b ++ c)) ++ n ≡ a ++ (b ++ (c ++ n))
regroup_three a b c n = append_assoc a (b ++ c) n ∙ ap (λ l. a ++ l) (append_assoc b c n)

-- an object with one array
one_array : (ms ns : List Member) (name : List ℕ) (vs : List Json) (n : List ℕ)
    → text_of (json_tokens (object_of (ms ++ (name, array_of vs) ∷ ns))) ++ n ≡ text_of (head_tokens ms name) ++ (elements_text false vs ++ (text_of (tail_tokens ns) ++ n))
one_array ms ns name vs n =
    ap (λ l. l ++ n) (object_print ms ns name vs ∙ ap (λ l. text_of (head_tokens ms name) ++ (elements_text false vs ++ l)) (tail_print ns))
    ∙ regroup_three (text_of (head_tokens ms name)) (elements_text false vs) (text_of (tail_tokens ns)) n

pub keytab_text : (file : List ℕ) (shows_keys : Bool) (k : KeytabState)
    → keytab_json_text file shows_keys k
    ≡ text_of (head_tokens (file_members file (codes "keytab") (version_byte k.format)) (codes "entries"))
    ++ (elements_text false (entry_values shows_keys k) ++ (text_of (tail_tokens ((codes "fault", fault_value (fault_of (store_of k))) ∷ [])) ++ codes "\n"))
unfolding keytab_value
keytab_text file shows_keys k =
    one_array (file_members file (codes "keytab") (version_byte k.format)) ((codes "fault", fault_value (fault_of (store_of k))) ∷ []) (codes "entries") (entry_values shows_keys k) (codes "\n")

pub check_text : (file : List ℕ) (c : CheckParts) (status : ℕ)
    → check_json_text file c status
    ≡ text_of (head_tokens (check_members file c.mode c.counts) (codes "findings"))
    ++ (elements_text false (finding_values c) ++ (text_of (tail_tokens ((codes "fault", fault_value c.fault) ∷ optional (codes "status") (Some status))) ++ codes "\n"))
unfolding check_value
check_text file c status =
    one_array (check_members file c.mode c.counts) ((codes "fault", fault_value c.fault) ∷ optional (codes "status") (Some status)) (codes "findings") (finding_values c) (codes "\n")

pub match_text : (keytab file : List ℕ) (ts : List MatchedParts) (fault : Option Fault) (status : ℕ)
    → match_json_text keytab file ts fault status
    ≡ text_of (head_tokens (match_members keytab file) (codes "tickets"))
    ++ (elements_text false (map match_value ts) ++ (text_of (tail_tokens ((codes "fault", fault_value fault) ∷ optional (codes "status") (Some status))) ++ codes "\n"))
unfolding matches_value
match_text keytab file ts fault status =
    one_array (match_members keytab file) ((codes "fault", fault_value fault) ∷ optional (codes "status") (Some status)) (codes "tickets") (map match_value ts) (codes "\n")

regroup_five : (a b c d e n : List ℕ) → (a ++ (b ++ (c ++ (d ++ e)))) ++ n ≡ a ++ ((b ++ (c ++ d)) ++ (e ++ n))
regroup_five a b c d e n = simp append_assoc refl

-- an object with two arrays
two_arrays : (ms ns : List Member) (one two : List ℕ) (vs ws : List Json) (n : List ℕ)
    → text_of (json_tokens (object_of (ms ++ (one, array_of vs) ∷ (two, array_of ws) ∷ ns))) ++ n
    ≡ text_of (head_tokens ms one) ++ ((elements_text false vs ++ (text_of (between_tokens two) ++ elements_text false ws)) ++ (text_of (tail_tokens ns) ++ n))
two_arrays ms ns one two vs ws n =
    let rest : List Member = (two, array_of ws) ∷ ns in
    let head = text_of (head_tokens ms one) in
    let between = text_of (between_tokens two) in
    ap (λ l. l ++ n)
    (object_print ms rest one vs
    ∙ ap (λ l. head ++ (elements_text false vs ++ l)) (rest_print ns two ws ∙ ap (λ l. between ++ (elements_text false ws ++ l)) (tail_print ns)))
    ∙ regroup_five head (elements_text false vs) between (elements_text false ws) (text_of (tail_tokens ns)) n

pub cache_text : (file : List ℕ) (k : CacheState)
    → cache_json_text file k
    ≡ text_of (head_tokens (cache_members file k) (codes "tickets"))
    ++ (arrays_text k ++ (text_of (tail_tokens ((codes "fault", fault_value (fault_of (cache.store_of k))) ∷ [])) ++ codes "\n"))
unfolding cache_value
cache_text file k =
    let xs = placed_credentials k in
    two_arrays (cache_members file k) ((codes "fault", fault_value (fault_of (cache.store_of k))) ∷ []) (codes "tickets") (codes "config") (ticket_values xs) (config_values xs) (codes "\n")
