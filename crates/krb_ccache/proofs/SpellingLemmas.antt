-- What is written for a credential: whether it fits, and its parts.
use Rattle.krb_ccache.proofs.Cited.{◌≡◌, ℕ, ◌+◌, ◌-◌, ◌^◌, ◌<◌, ◌≤◌, true, List, [], ◌∷◌, ◌++◌, length, sym, ap, subst, ◌∙◌, append_assoc, length-append, arith, sum, Option, None, IfNone, refl, flat_map, AllByRecursion, w16, w32, flat_map-cons, Big, Parts, digits, data32, cc_principal, cc_name_fits, IsLong, FitsCc, wide16, wide32, V4, TypedData, Key, CredParts, number32, typed_data, typed_list, key, times, credential, FitsTypedData, FitsTypedList, FitsTimes, FitsCredential, plain_key, middle_text, lists_text, owned_list, owned_typed, at_drop_more, drop, get_or, Vec, Times}
use Rattle.krb_wire.proofs.NamesCompared.{has_cc_len, and_both, long_lengths_of, long_lengths_fit}

-- ---- what fits

-- a name that has a length fits
pub spelled_fits : (p : Parts) → true ≡ has_cc_len p → p.name_type < 2 ^ 32 → FitsCc p
spelled_fits p e lt = search (arith, and_both, long_lengths_of)

-- a name that fits can be written
pub fits_spelled : (p : Parts) → FitsCc p → cc_name_fits p ≡ true
fits_spelled p fit = long_lengths_fit p (record { count = fit.count; realm = fit.realm; components = fit.components })

-- each item takes at least a byte
items_le : (xs : List TypedData) → length xs ≤ length (flat_map typed_data xs)
items_le [] = omega arith
items_le (x ∷ xs) = omega (arith, items_le xs, ap length (flat_map-cons typed_data x xs), length-append (typed_data x) (flat_map typed_data xs), length-append (digits Big w16 x.kind) (data32 Big x.bytes), (wide16 Big).len x.kind)

pub few_items : (xs : List TypedData) → length (flat_map typed_data xs) < 2 ^ 32 → AllByRecursion FitsTypedData xs → FitsTypedList xs
few_items xs lt each = record { count = omega (arith, lt, items_le xs); each = each }

-- ---- its parts

pub in_four : (c : CredParts) → cc_principal c.client ++ (cc_principal c.server ++ (middle_text c ++ lists_text c)) ≡ credential V4 c
in_four c = search (arith, append_assoc)

-- the same, with the names of an equal credential
pub four_is : (c d : CredParts) → d ≡ c → cc_principal d.client ++ (cc_principal d.server ++ (middle_text c ++ lists_text c)) ≡ credential V4 c
four_is c d same = ap (λ (x : CredParts). cc_principal x.client ++ (cc_principal x.server ++ (middle_text c ++ lists_text c))) same ∙ in_four c

-- ---- its length

data_len : (bytes : List ℕ) → length (data32 Big bytes) ≡ 4 + length bytes
data_len bytes = omega (arith, length-append (digits Big w32 (length bytes)) bytes, (wide32 Big).len (length bytes))

list_len : (xs : List TypedData) → length (typed_list xs) ≡ 4 + length (flat_map typed_data xs)
list_len xs = omega (arith, length-append (number32 (length xs)) (flat_map typed_data xs), (wide32 Big).len (length xs))

key_len : (k : Key) → length (key V4 k) ≡ 6 + length k.bytes
key_len k = omega (arith, length-append (digits Big w16 k.enctype) (data32 Big k.bytes), (wide16 Big).len k.enctype, data_len k.bytes)

times_len : (t : Times) → length (times t) ≡ 16
times_len t = refl

middle_len : (c : CredParts) → length (middle_text c) ≡ 27 + length c.key.bytes
middle_len c =
    let flags : List ℕ = (c.is_skey ∷ []) ++ number32 c.flags in
    omega (arith, length-append (key V4 c.key) (times c.times ++ flags), length-append (times c.times) flags, key_len c.key, times_len c.times, (wide32 Big).len c.flags)

lists_len : (c : CredParts) → length (lists_text c) ≡ 16 + length (flat_map typed_data c.addresses) + length (flat_map typed_data c.authdata) + length c.ticket + length c.second_ticket
lists_len c =
    let tickets = data32 Big c.ticket ++ data32 Big c.second_ticket in
    omega (arith, length-append (typed_list c.addresses) (typed_list c.authdata ++ tickets), length-append (typed_list c.authdata) tickets, length-append (data32 Big c.ticket) (data32 Big c.second_ticket), list_len c.addresses, list_len c.authdata, data_len c.ticket, data_len c.second_ticket)

-- the length of an item and those after it
pub items_len : (xs : List TypedData) (x : TypedData) (others : List TypedData) → xs ≡ x ∷ others → length (flat_map typed_data xs) ≡ 6 + length x.bytes + length (flat_map typed_data others)
items_len xs x others is =
    omega (arith, ap (λ (ys : List TypedData). length (flat_map typed_data ys)) is, length-append (typed_data x) (flat_map typed_data others), length-append (digits Big w16 x.kind) (data32 Big x.bytes), (wide16 Big).len x.kind, data_len x.bytes)

-- the lengths of its parts without the items of its lists; 43 is that of the fixed fields
abbrev pub lens_of : CredParts → List ℕ
lens_of c = 43 ∷ length (cc_principal c.client) ∷ length (cc_principal c.server) ∷ length c.key.bytes ∷ length c.ticket ∷ length c.second_ticket ∷ []

credential_len : (c : CredParts) → length (credential V4 c) ≡ sum (lens_of c) + length (flat_map typed_data c.addresses) + length (flat_map typed_data c.authdata)
credential_len c =
    let server = cc_principal c.server in
    let rest = middle_text c ++ lists_text c in
    omega (arith, ap length (in_four c), length-append (cc_principal c.client) (server ++ rest), length-append server rest, length-append (middle_text c) (lists_text c), middle_len c, lists_len c)

-- ---- its length, by the fields of an equal credential

-- the clause of a call that returns `None`
pub none_if : {r : Option ℕ} {P : Type 0} → r ≡ None → P → IfNone r P
none_if {P = P} e p = subst (λ (o : Option ℕ). IfNone o P) (sym e) p

pub client_too_long : (c d : CredParts) (most : ℕ) → d ≡ c → most ≤ 2 ^ 30 → 2 ^ 32 ≤ length (cc_principal d.client) → most < length (credential V4 c)
client_too_long c d most same le long = omega (arith, le, long, ap (λ (x : CredParts). length (cc_principal x.client)) same, credential_len c)

pub server_too_long : (c d : CredParts) (most : ℕ) → d ≡ c → most ≤ 2 ^ 30 → 2 ^ 32 ≤ length (cc_principal d.server) → most < length (credential V4 c)
server_too_long c d most same le long = omega (arith, le, long, ap (λ (x : CredParts). length (cc_principal x.server)) same, credential_len c)

-- the lengths that are added up are its own
pub lens_within : (c d : CredParts) (client server key ticket second : ℕ) → d ≡ c → client ≡ length (cc_principal d.client) → server ≡ length (cc_principal d.server) → key ≡ length d.key.bytes → ticket ≡ length d.ticket → second ≡ length d.second_ticket
    → sum (43 ∷ client ∷ server ∷ key ∷ ticket ∷ second ∷ []) ≡ sum (lens_of d)
lens_within c d client server key ticket second same is_client is_server is_key is_ticket is_second = rw (is_client, is_server, is_key, is_ticket, is_second) refl

pub lens_too_long : (c d : CredParts) (most len : ℕ) → d ≡ c → len ≡ sum (lens_of d) → most < len → most < length (credential V4 c)
lens_too_long c d most len same is long = omega (arith, long, is, ap (λ (x : CredParts). sum (lens_of x)) same, credential_len c)

-- what is outside its lists takes `len` bytes, which are at most `most`
pub record LensWithin (c d : CredParts) (most len : ℕ) : Type 0 where
  pub same : d ≡ c
  pub lens : len ≡ sum (lens_of d)
  pub within : len ≤ most

len_of_lens : (c d : CredParts) (most len : ℕ) → LensWithin c d most len → length (credential V4 c) ≡ len + length (flat_map typed_data d.addresses) + length (flat_map typed_data d.authdata)
len_of_lens c d most len t = sym (ap (λ (x : CredParts). length (credential V4 x)) t.same) ∙ credential_len d ∙ ap (λ (n : ℕ). n + length (flat_map typed_data d.addresses) + length (flat_map typed_data d.authdata)) (sym t.lens)

pub addresses_too_long : (c d : CredParts) (most len : ℕ) (xs : List TypedData) → LensWithin c d most len → xs ≡ d.addresses → most - len < length (flat_map typed_data xs) → most < length (credential V4 c)
addresses_too_long c d most len xs t is long = omega (arith, long, t.within, ap (λ (x : List TypedData). length (flat_map typed_data x)) is, len_of_lens c d most len t)

pub authdata_too_long : (c d : CredParts) (most len room : ℕ) (xs ys : List TypedData) → LensWithin c d most len → xs ≡ d.addresses → ys ≡ d.authdata → room + length (flat_map typed_data xs) ≡ most - len → room < length (flat_map typed_data ys) → most < length (credential V4 c)
authdata_too_long c d most len room xs ys t is_xs is_ys left long =
    omega (arith, left, long, t.within, ap (λ (x : List TypedData). length (flat_map typed_data x)) is_xs, ap (λ (x : List TypedData). length (flat_map typed_data x)) is_ys, len_of_lens c d most len t)

-- the room that it takes is its length
pub room_within : (c d : CredParts) (most len room left : ℕ) (xs ys : List TypedData) → LensWithin c d most len → xs ≡ d.addresses → ys ≡ d.authdata → room + length (flat_map typed_data xs) ≡ most - len → left + length (flat_map typed_data ys) ≡ room → most - left ≡ length (credential V4 c)
room_within c d most len room left xs ys t is_xs is_ys first second =
    omega (arith, first, second, t.within, ap (λ (x : List TypedData). length (flat_map typed_data x)) is_xs, ap (λ (x : List TypedData). length (flat_map typed_data x)) is_ys, len_of_lens c d most len t)

-- ---- what was written, by the fields of an equal credential

-- the items from an index on are the one there and those after it
pub items_more : {A : Type 0} (items : List (ℕ × Vec ℕ A)) (i : ℕ) (x : ℕ × Vec ℕ A) → i < length items → x ≡ get_or items i x → owned_list (drop i items) ≡ owned_typed x ∷ owned_list (drop (i + 1) items)
items_more items i x lt is = at_drop_more owned_list items i x lt ∙ ap (λ (y : TypedData). y ∷ owned_list (drop (i + 1) items)) (ap owned_typed (sym is))

pub middle_is : (c d : CredParts) (bytes : List ℕ) (t : Times) → d ≡ c → bytes ≡ d.key.bytes → t ≡ c.times → key V4 (plain_key d.key.enctype bytes) ++ (times t ++ ((d.is_skey ∷ []) ++ number32 d.flags)) ≡ middle_text c
middle_is c d bytes t same is_bytes is_times = rw (is_bytes, is_times, same) refl

pub lists_is : (c d : CredParts) (xs ys : List TypedData) (t u : List ℕ) → d ≡ c → xs ≡ d.addresses → ys ≡ d.authdata → t ≡ d.ticket → u ≡ d.second_ticket → typed_list xs ++ (typed_list ys ++ (data32 Big t ++ data32 Big u)) ≡ lists_text c
lists_is c d xs ys t u same is_xs is_ys is_t is_u = rw (is_xs, is_ys, is_t, is_u) (ap lists_text same)

-- the names, the key, the lists and the tickets of a credential fit
pub record PartsFit (d : CredParts) : Type 0 where
  pub client : true ≡ has_cc_len d.client
  pub server : true ≡ has_cc_len d.server
  pub one_enctype : d.key.second_enctype ≡ 0
  pub key : IsLong d.key.bytes
  pub address : AllByRecursion FitsTypedData d.addresses
  pub addresses : length (flat_map typed_data d.addresses) < 2 ^ 32
  pub element : AllByRecursion FitsTypedData d.authdata
  pub authdata : length (flat_map typed_data d.authdata) < 2 ^ 32
  pub ticket : IsLong d.ticket
  pub second_ticket : IsLong d.second_ticket

-- they fit if their lengths add up to at most `most`
pub parts_within : (c d : CredParts) (most len room left : ℕ) (xs ys : List TypedData) → LensWithin c d most len → most ≤ 2 ^ 30 → xs ≡ d.addresses → ys ≡ d.authdata → room + length (flat_map typed_data xs) ≡ most - len → left + length (flat_map typed_data ys) ≡ room
    → true ≡ has_cc_len d.client → true ≡ has_cc_len d.server → d.key.second_enctype ≡ 0 → AllByRecursion FitsTypedData xs → AllByRecursion FitsTypedData ys → PartsFit d
parts_within c d most len room left xs ys t small is_xs is_ys first second client server one_enctype address element = search arith

pub fits_by : (c d : CredParts) → d ≡ c → PartsFit d → c.client.name_type < 2 ^ 32 → c.server.name_type < 2 ^ 32 → c.key.enctype < 2 ^ 16 → c.is_skey < 256 → c.flags < 2 ^ 32 → FitsTimes c.times → FitsCredential V4 c
fits_by c d same parts client server enctype is_skey flags times = search (arith, spelled_fits, few_items)
