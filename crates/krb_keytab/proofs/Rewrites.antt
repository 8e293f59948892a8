-- A rewritten keytab, as a store.
use Rattle.krb_keytab.proofs.Cited.{◌≡◌, ℕ, ◌+◌, ◌^◌, ◌<◌, ◌≤◌, true, List, [], ◌∷◌, ◌++◌, length, map, drop, Option, Some, None, Ok, refl, sym, ap, subst, ◌∙◌, append_assoc, length-append, arith, is_some, w32, filter_map, flat_map, cons_option, AllByRecursion, append-nil, flat_map-cons, Order, Big, KtFormat, V2, order_of, digits, HasNameType, number_at, IsBytes, IsBytes-drop, is_some_has, wide32, number_takes, Rewrites, records_of, EntryParts, entry_at, front, entry_of, Spells, version_by, Cell, Live, Free, bytes_of, length_field, cell, end_bytes, contents, IsCell, IsSound, KeytabState, store_cell, store_of, image_of, entries, written_form, fits, IsEntry, new_record, rewrite_of, rewrite_result, IsKnownEnd, drop_of_length-le, nat_tests, IsBytes-front, IsBytes-back}
use Rattle.krb_walk.specs.Store.{Cell as StoreCell}
use Rattle.krb_walk.proofs.Lives.{lives}
use Rattle.krb_keytab.specs.declared.image.Ending.TheVariants as ending
use Rattle.krb_keytab.proofs.CellLemmas.{contents_again}
use Rattle.krb_keytab.proofs.ImageChanges.{contents_none}
use Rattle.krb_keytab.proofs.Cuts.{cell_len, end_place_is, store_sound}
use Rattle.krb_keytab.proofs.EntryLemmas.{entry_spelled, entry_again}
use Rattle.krb_keytab.proofs.WrittenLemmas.{written_spells, written_len}
use Rattle.krb_keytab.proofs.Stores.{keytab_of}
use Rattle.krb_keytab.proofs.NewRecords.{fits_v2}

-- ---- the entries of cells

abbrev pub entries_of : KtFormat → List Cell → List EntryParts
entries_of f [] = []
entries_of f (Free b ∷ cs) = entries_of f cs
entries_of f (Live b ∷ cs) = cons_option (entry_at f b) (entries_of f cs)

entries_is : (f : KtFormat) (at : ℕ) (cs : List Cell) → filter_map (λ r. entry_at f r.bytes) (records_of at (map store_cell cs)) ≡ entries_of f cs
entries_is f at [] = refl
entries_is f at (Free b ∷ cs) = entries_is f (at + (4 + length b)) cs
entries_is f at (Live b ∷ cs) = ap (cons_option (entry_at f b)) (entries_is f (at + (4 + length b)) cs)

entries_all : (k : KeytabState) → entries k ≡ entries_of k.format k.contents.cells
entries_all k = entries_is k.format 2 k.contents.cells

-- the new cells
abbrev pub new_cells : KtFormat → List Cell → List Cell
new_cells f cs = map new_record (entries_of f cs)

-- the entry of a record that is read, and then those of the other cells
entries_live : (f : KtFormat) (b : List ℕ) (e : EntryParts) (cs : List Cell) → entry_at f b ≡ Some e → entries_of f (Live b ∷ cs) ≡ e ∷ entries_of f cs
entries_live f b e cs is = ap (λ (o : Option EntryParts). cons_option o (entries_of f cs)) is

-- ---- as many live cells

as_many_of : (f : KtFormat) (cs : List Cell) (at to : ℕ) → AllByRecursion (IsCell f) cs → length (lives to (map store_cell (new_cells f cs))) ≡ length (lives at (map store_cell cs))
as_many_of f [] at to sound = refl
as_many_of f (Free b ∷ cs) at to sound = as_many_of f cs (at + (4 + length b)) to sound.1
as_many_of f (Live b ∷ cs) at to sound = grind (arith, nat_tests, as_many_of f cs (at + (4 + length b)))

all_live_of : (es : List EntryParts) → AllByRecursion (λ (c : StoreCell). is_some c.live ≡ true) (map store_cell (map new_record es))
all_live_of [] = tt
all_live_of (e ∷ es) = (refl, all_live_of es)

-- ---- an entry that was read is read again

type_fits : (f : KtFormat) (t : ℕ) → HasNameType f t → t < 2 ^ 32
type_fits f t h = search arith

version_fits_by : (low : ℕ) (read : Option (ℕ × List ℕ)) → low < 256 → ((n : ℕ × List ℕ) → read ≡ Some n → n.0 < 2 ^ 32) → version_by low read < 2 ^ 32
version_fits_by low read lt h = search arith

is_entry : (f : KtFormat) (e : EntryParts) (b : List ℕ) → IsBytes b → Spells f e b → IsEntry e
is_entry f e b fits s =
    let o = order_of f in
    let tail_fits : IsBytes s.tail = IsBytes-back (front f s.fields) s.tail (subst IsBytes s.parts fits) in
    let version : version_by s.fields.low_version (number_at o w32 s.tail) < 2 ^ 32 =
    version_fits_by s.fields.low_version (number_at o w32 s.tail) s.fit.low_version (λ n got. (number_takes o w32 (2 ^ 32) (wide32 o) s.tail n.0 n.1 tail_fits got).1) in
    let made : IsEntry (entry_of f s.fields s.tail) = record { name_type = type_fits f s.fields.principal.name_type s.fit.principal.name_type; timestamp = s.fit.timestamp; version = version; enctype = s.fit.enctype } in
    subst IsEntry (sym s.entry) made

-- what is written for it is a record, and is read back as it
pub record GivesBack (e : EntryParts) : Type 0 where
  pub fit : fits V2 e ≡ true
  pub entry : IsEntry e
  pub back : entry_at V2 (written_form V2 e) ≡ Some e

gives_back : (f : KtFormat) (b : List ℕ) (e : EntryParts) → IsBytes b → entry_at f b ≡ Some e → GivesBack e
gives_back f b e fits is =
    let s = entry_spelled f b e fits is in
    let fit = fits_v2 f e b s in
    let ok = is_entry f e b fits s in
    record { fit = fit; entry = ok; back = ap (entry_at V2) (sym (append-nil (written_form V2 e))) ∙ entry_again V2 e (written_form V2 e ++ []) (written_spells V2 e 0 fit ok) }

-- ---- the new cells are sound

cell_bytes : (o : Order) (cs : List Cell) (more : List ℕ) → IsBytes (flat_map (cell o) cs ++ more) → AllByRecursion (λ c. IsBytes (bytes_of c)) cs
cell_bytes o [] more fits = tt
cell_bytes o (c ∷ cs) more fits =
    let grouped : flat_map (cell o) (c ∷ cs) ++ more ≡ cell o c ++ (flat_map (cell o) cs ++ more) = ap (λ (b : List ℕ). b ++ more) (flat_map-cons (cell o) c cs) ∙ append_assoc (cell o c) (flat_map (cell o) cs) more in
    let fits2 = subst IsBytes grouped fits in
    (IsBytes-back (digits o w32 (length_field c)) (bytes_of c) (IsBytes-front (cell o c) (flat_map (cell o) cs ++ more) fits2), cell_bytes o cs more (IsBytes-back (cell o c) (flat_map (cell o) cs ++ more) fits2))

written_some : (e : EntryParts) → 0 < length (written_form V2 e)
written_some e = let len = written_len V2 e in omega (arith, len)

new_cells_sound : (f : KtFormat) (cs : List Cell) → AllByRecursion (IsCell f) cs → AllByRecursion (λ c. IsBytes (bytes_of c)) cs → length (flat_map (cell Big) (new_cells f cs)) < 2 ^ 31 → AllByRecursion (IsCell V2) (new_cells f cs)
new_cells_sound f [] sound fits small = tt
new_cells_sound f (Free b ∷ cs) sound fits small = new_cells_sound f cs sound.1 fits.1 small
new_cells_sound f (Live b ∷ cs) sound fits small =
    let e = is_some_has (entry_at f b) sound.0.2 in
    let is = ap (map new_record) (entries_live f b e.0 cs e.1) in
    let g = gives_back f b e.0 fits.0 e.1 in
    let len : length (flat_map (cell Big) (new_record e.0 ∷ new_cells f cs)) ≡ (4 + length (written_form V2 e.0)) + length (flat_map (cell Big) (new_cells f cs)) =
    ap length (flat_map-cons (cell Big) (new_record e.0) (new_cells f cs)) ∙ length-append (cell Big (new_record e.0)) (flat_map (cell Big) (new_cells f cs)) ∙ ap (λ (n : ℕ). n + length (flat_map (cell Big) (new_cells f cs))) (cell_len Big (new_record e.0)) in
    let whole : length (flat_map (cell Big) (new_record e.0 ∷ new_cells f cs)) < 2 ^ 31 = subst (λ (ds : List Cell). length (flat_map (cell Big) ds) < 2 ^ 31) is small in
    subst (AllByRecursion (IsCell V2)) (sym is) ((written_some e.0, omega (arith, len, whole), ap is_some g.back), new_cells_sound f cs sound.1 fits.1 (omega (arith, len, whole)))

-- ---- each entry is kept

-- the first cell keeps its entry, if one is read there
kept_by : (f : KtFormat) (b : List ℕ) (cs : List Cell) (o : Option EntryParts) → entry_at f b ≡ o → IsBytes b → entries_of V2 (new_cells f cs) ≡ entries_of f cs → entries_of V2 (new_cells f (Live b ∷ cs)) ≡ entries_of f (Live b ∷ cs)
kept_by f b cs None is fits kept = search arith
kept_by f b cs (Some e) is fits kept =
    let g = gives_back f b e fits is in
    ap (λ (es : List EntryParts). entries_of V2 (map new_record es)) (entries_live f b e cs is) ∙ entries_live V2 (written_form V2 e) e (new_cells f cs) g.back ∙ ap (λ (es : List EntryParts). e ∷ es) kept ∙ sym (entries_live f b e cs is)

kept_of : (f : KtFormat) (cs : List Cell) → AllByRecursion (λ c. IsBytes (bytes_of c)) cs → entries_of V2 (new_cells f cs) ≡ entries_of f cs
kept_of f [] fits = refl
kept_of f (Free b ∷ cs) fits = kept_of f cs fits.1
kept_of f (Live b ∷ cs) fits = kept_by f b cs (entry_at f b) refl fits.0 (kept_of f cs fits.1)

-- ---- the keytab and its image

pub new_sound : (k : KeytabState) (bytes : List ℕ) → IsSound k.format k.contents → bytes ≡ image_of k → IsBytes bytes → length (image_of (rewrite_of k)) ≤ 2 ^ 30 → AllByRecursion (IsCell V2) (rewrite_of k).contents.cells
new_sound k bytes sound is fits small =
    let cells = k.contents.cells in
    let o = order_of k.format in
    let inner : IsBytes (flat_map (cell o) cells ++ end_bytes o k.contents.end) = IsBytes-drop 2 (image_of k) (subst IsBytes is fits) in
    let same = entries_all k in
    let len : length (flat_map (cell Big) (map new_record (entries k))) ≤ length (image_of (rewrite_of k)) = omega (arith, length-append (flat_map (cell Big) (map new_record (entries k))) []) in
    subst (λ (es : List EntryParts). AllByRecursion (IsCell V2) (map new_record es)) (sym same)
    (new_cells_sound k.format cells sound.cells (cell_bytes o cells (end_bytes o k.contents.end) inner) (subst (λ (es : List EntryParts). length (flat_map (cell Big) (map new_record es)) < 2 ^ 31) same (omega (arith, len, small))))

pub entries_kept : (k : KeytabState) → IsBytes (image_of k) → entries (rewrite_of k) ≡ entries k
entries_kept k fits =
    let cells = k.contents.cells in
    let o = order_of k.format in
    let inner : IsBytes (flat_map (cell o) cells ++ end_bytes o k.contents.end) = IsBytes-drop 2 (image_of k) fits in
    entries_all (rewrite_of k) ∙ ap (λ (es : List EntryParts). entries_of V2 (map new_record es)) (entries_all k)
    ∙ kept_of k.format cells (cell_bytes o cells (end_bytes o k.contents.end) inner) ∙ sym (entries_all k)

-- it has the same entries
pub rewritten_keeps : (k new : KeytabState) → IsBytes (image_of k) → rewrite_result k ≡ Ok new → entries new ≡ entries k
rewritten_keeps k new fits made = search (arith, entries_kept)

pub rewrite_contents : (k : KeytabState) (new : List ℕ) → IsSound V2 (rewrite_of k).contents → new ≡ image_of (rewrite_of k) → IsBytes new → contents V2 (drop 2 new) ≡ (rewrite_of k).contents
rewrite_contents k new sound is fits =
    ap (λ (b : List ℕ). contents V2 (drop 2 b)) is ∙ contents_again V2 (rewrite_of k).contents sound (IsBytes-drop 2 (image_of (rewrite_of k)) (subst IsBytes is fits))

pub rewrite_known : (k : KeytabState) (new : List ℕ) (len : ℕ) → contents V2 (drop 2 new) ≡ (rewrite_of k).contents → new ≡ image_of (rewrite_of k) → len ≡ length (image_of (rewrite_of k)) → IsKnownEnd V2 new (record { place = len; ending = ending.Bare })
rewrite_known k new len is spelled is_len = search (arith, drop_of_length-le, contents_none, length-append, end_place_is)

pub rewrites_store : (k : KeytabState) → IsSound k.format k.contents → IsSound V2 (rewrite_of k).contents → (store_of k).fault ≡ None → Rewrites (store_of k) (store_of (rewrite_of k))
rewrites_store k was sound whole = search (arith, store_sound, all_live_of, entries_all, as_many_of)

-- the new image, as a keytab
pub rewrite_held : (f : KtFormat) (limit : ℕ) (image new : List ℕ) (k : KeytabState) → keytab_of f limit image ≡ k → contents V2 (drop 2 new) ≡ (rewrite_of k).contents → keytab_of V2 limit new ≡ rewrite_of k
rewrite_held f limit image new k is spelled = search arith
