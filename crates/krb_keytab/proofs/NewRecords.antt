-- Entries that are rewritten.
use Rattle.krb_keytab.proofs.Cited.{◌≡◌, ℕ, ◌+◌, ◌^◌, List, [], ◌∷◌, ◌++◌, length, map, Some, true, refl, sym, ap, ◌∙◌, arith, ◌&&◌, option_map, filter_map, flat_map, w16, w32, Order, Big, KtFormat, V2, Parts, name_fits, is_short, byte_at, number_at, data16_at, kt_principal_at, IsBytes, wide16, wide32, number_takes, data16_takes, Record, records, EntryParts, entry_at, Spells, cell, KeytabState, store_of, entries, image_of, PlacedEntry, placed_entries, fits, new_record, rewrite_of, nat_tests, length-map, length-append, kt_principal_takes, byte_takes}
use Rattle.krb_keytab.proofs.WrittenLemmas.{fits_yes}

-- the bytes of the new records of entries
abbrev pub new_records : List PlacedEntry → List ℕ
new_records xs = flat_map (cell Big) (map new_record (map (λ x. x.1) xs))

-- the places do not matter
without_places : (f : KtFormat) (rs : List Record) → map (λ (x : PlacedEntry). x.1) (filter_map (λ (r : Record). option_map (λ (e : EntryParts). (r.place, e)) (entry_at f r.bytes)) rs) ≡ filter_map (λ (r : Record). entry_at f r.bytes) rs
without_places f [] = refl
without_places f (r ∷ rs) = search (arith, without_places f rs)

-- those of all entries are the new cells
pub new_records_all : (k : KeytabState) (xs : List PlacedEntry) → xs ≡ placed_entries k → flat_map (cell Big) (rewrite_of k).contents.cells ≡ new_records xs
new_records_all k xs is = sym (ap new_records is ∙ ap (λ (es : List EntryParts). flat_map (cell Big) (map new_record es)) (without_places k.format (records (store_of k))))

pub len_all : (k : KeytabState) (xs : List PlacedEntry) → xs ≡ placed_entries k → 2 + length (new_records xs) ≡ length (image_of (rewrite_of k))
len_all k xs is = search (arith, new_records_all, length-append)

-- there are as many new cells as entries
pub count_all : (k : KeytabState) (xs : List PlacedEntry) → xs ≡ placed_entries k → length xs ≡ length (rewrite_of k).contents.cells
count_all k xs is = sym (length-map xs (λ (x : PlacedEntry). x.1)) ∙ ap (λ (ys : List PlacedEntry). length (map (λ (x : PlacedEntry). x.1) ys)) is ∙ ap length (without_places k.format (records (store_of k))) ∙ sym (length-map (entries k) new_record)

-- the first entry, and the others
pub new_records_next : (xs ys : List PlacedEntry) (x : PlacedEntry) → xs ≡ x ∷ ys → new_records xs ≡ cell Big (new_record x.1) ++ new_records ys
new_records_next xs ys x is = ap new_records is

-- ---- an entry that was read fits version 2

name_fits_v2 : (f : KtFormat) (p : Parts) → name_fits f p ≡ true → name_fits V2 p ≡ true
name_fits_v2 f p h = grind (arith, nat_tests)

pub fits_v2 : (f : KtFormat) (e : EntryParts) (b : List ℕ) → Spells f e b → fits V2 e ≡ true
fits_v2 f e b s = grind (arith, nat_tests)

-- what is read part by part fits it
pub read_fits : (f : KtFormat) (o : Order) (bytes : List ℕ) (name : Parts × List ℕ) (timestamp low enctype : ℕ × List ℕ) (key : List ℕ × List ℕ) → IsBytes bytes
    → kt_principal_at f bytes ≡ Some name → number_at o w32 name.1 ≡ Some timestamp → byte_at timestamp.1 ≡ Some low → number_at o w16 low.1 ≡ Some enctype → data16_at o enctype.1 ≡ Some key
    → (name_fits V2 name.0 && is_short key.0) ≡ true
read_fits f o bytes name timestamp low enctype key fits is_name is_timestamp is_low is_enctype is_key =
    let n = kt_principal_takes f bytes name fits is_name in
    let t = number_takes o w32 (2 ^ 32) (wide32 o) name.1 timestamp.0 timestamp.1 n.0.rest_fits is_timestamp in
    let l = byte_takes timestamp.1 low t.0.rest_fits is_low in
    let e = number_takes o w16 (2 ^ 16) (wide16 o) low.1 enctype.0 enctype.1 l.0.rest_fits is_enctype in
    let k = data16_takes o enctype.1 key.0 key.1 e.0.rest_fits is_key in
    sym (fits_yes V2 (record { principal = name.0; timestamp = 0; version = 0; enctype = 0; key = key.0 }) (name_fits_v2 f name.0 n.1.lengths) (omega (arith, k.1)))
