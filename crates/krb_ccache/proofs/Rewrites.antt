-- A rewritten cache: its image, its store, and where cursors go.
use Rattle.krb_ccache.proofs.Cited.{◌≡◌, ℕ, ◌+◌, ◌≤◌, true, false, Result, Ok, None, List, [], ◌∷◌, ◌++◌, length, map, refl, sym, ap, subst, ◌∙◌, append_assoc, length-append, arith, ◌-◌, take, flat_map, AllByRecursion, le-ltb, append-nil, cc_principal, Parts, IsBytes, IsBytes-drop, IsBytes-take, next_by, spelling, Cell, end_of, fault_of, AreCells, seen_in, Version, V4, CredParts, credential, is_marked, FitsCredential, in_version_4, header, offset_in, CacheState, PlacedCredential, credentials_format, image_of, store_cell, store_of, first_place, placed_from, is_live, new_header, new_preamble, live_credentials, Holds, IsImage, cache_of, new_text, new_texts, Layout, Offset, nat_lt, is_some, not, filter, drop, Option, IfOk, Rewrites, new_cells, rewrite_of, rewrite_result, IsBytes-front, IsBytes-back, whole_of}
use Rattle.krb_walk.proofs.Lives.{lives}
use Rattle.krb_cells.specs.Carry.{whole, store_in}
use Rattle.krb_ccache.proofs.Splits.{no_credential}
use Rattle.krb_ccache.proofs.CellLemmas.{end_is}
use Rattle.krb_ccache.proofs.CacheLemmas.{IsReadable, holds, image_readable}
use Rattle.krb_ccache.proofs.PreambleLemmas.{header_read}
use Rattle.krb_ccache.proofs.NewTexts.{flat_new_texts}
use Rattle.krb_ccache.proofs.StoreChanges.{cells_wide}
use Rattle.krb_ccache.proofs.ImageLemmas.{image_parts, first_ahead, image_credentials, image_cells}
use Rattle.krb_walk.specs.declared.refusal.Code.TheVariants as code

-- ---- the new image

pub image_is : (k : CacheState) → image_of (rewrite_of k) ≡ new_preamble k.principal (offset_in k.header) ++ flat_map new_text k.contents.cells
image_is k = search (arith, append-nil, append_assoc, flat_new_texts)

all_version_4 : (v : Version) (cs : List CredParts) → AllByRecursion (FitsCredential v) cs → AllByRecursion (FitsCredential V4) (new_cells cs)
all_version_4 v [] all = tt
all_version_4 v (c ∷ cs) all = search (arith, all_version_4 v cs all.1)

pub rewrite_held : (k : CacheState) (image : List ℕ) (limit principal first end : ℕ) → IsReadable k → IsBytes image → image ≡ image_of (rewrite_of k) → limit ≡ k.limit → length (image_of (rewrite_of k)) ≤ limit
    → principal ≡ 2 + length (header V4 (new_header (offset_in k.header))) → first ≡ length (new_preamble k.principal (offset_in k.header)) → end ≡ length (image_of (rewrite_of k))
    → Holds (record { version = V4; limit = limit; places = record { principal = principal; first = first; end = end } }) image (rewrite_of k)
rewrite_held k image limit principal first end kept fits is is_limit within is_principal is_first is_end =
    let d = rewrite_of k in
    let h = header V4 (new_header (offset_in k.header)) in
    let rest = cc_principal k.principal ++ spelling (credentials_format V4) d.contents in
    let spelled : IsBytes (image_of d) = subst IsBytes is fits in
    let head_fits : IsBytes h = IsBytes-front h rest (IsBytes-back (5 ∷ 4 ∷ []) (h ++ rest) spelled) in
    let new_kept : IsReadable d = record {
      header = λ rest. header_read (offset_in k.header) rest head_fits;
      principal = kept.principal;
      cells = all_version_4 k.version k.contents.cells kept.cells;
      end = ap (next_by {C = CredParts} []) (no_credential V4);
      within = omega (arith, within, is_limit);
      limit_fits = kept.limit_fits;
    } in
    let place : first ≡ first_place d = omega (arith, is_first, length-append h (cc_principal k.principal)) in
    let last : end ≡ end_of (store_of d) = omega (arith, is_end, ap length (image_is k), length-append (new_preamble k.principal (offset_in k.header)) (flat_map new_text k.contents.cells), end_is V4 (first_place d) (new_cells k.contents.cells), ap length (flat_new_texts k.contents.cells), place, is_first) in
    holds d _ image new_kept fits is (rw (is_limit, is_principal, place, last) refl)

pub rewrite_fits : (k : CacheState) → is_some (fault_of (store_of k)) ≡ false → length (image_of (rewrite_of k)) ≤ k.limit → rewrite_result k ≡ Ok (rewrite_of k)
rewrite_fits k whole short = let room : nat_lt k.limit (length (image_of (rewrite_of k))) ≡ false = le-ltb _ _ short in rw (whole, room) refl

-- ---- its store

abbrev IsAllLive : List Cell → Type 0
IsAllLive cells = AllByRecursion (λ (x : Cell). is_some x.live ≡ true) cells

all_live : (cs : List CredParts) → IsAllLive (map (store_cell V4) (new_cells cs))
all_live [] = tt
all_live (c ∷ cs) = search (arith, all_live cs)

as_many : (v : Version) (cs : List CredParts) (at to : ℕ) → length (lives to (map (store_cell V4) (new_cells cs))) ≡ length (lives at (map (store_cell v) cs))
as_many v [] at to = refl
as_many v (c ∷ cs) at to = search (arith, as_many v cs)

pub rewrites_store : (k : CacheState) → is_some (fault_of (store_of k)) ≡ false → Rewrites (store_of k) (store_of (rewrite_of k))
rewrites_store k whole = search (arith, whole_of, cells_wide, all_live, as_many)

-- ---- its live credentials

-- the credentials without the removed mark
abbrev live : List CredParts → List CredParts
live cs = filter (λ c. not (is_marked c)) cs

abbrev unplaced : List PlacedCredential → List CredParts
unplaced xs = map (λ x. x.1) xs

unplaced_live : (v : Version) (at : ℕ) (cs : List CredParts) → unplaced (filter is_live (placed_from v at cs)) ≡ live cs
unplaced_live v at [] = refl
unplaced_live v at (c ∷ cs) = search (arith, unplaced_live v (at + length (credential v c)) cs)

live_version_4 : (cs : List CredParts) → live (new_cells cs) ≡ new_cells cs
live_version_4 [] = refl
live_version_4 (c ∷ cs) = search (arith, live_version_4 cs)

-- the rewritten cache has the same live credentials, as version 4 has them
pub rewritten_keeps : (k new : CacheState) → rewrite_result k ≡ Ok new → live_credentials new ≡ map in_version_4 (live_credentials k)
rewritten_keeps k new made = search (arith, unplaced_live, live_version_4)

-- ---- the image of a rewrite

pub readable_by : (h : Layout) (image : List ℕ) (k : CacheState) → IsBytes image → IsImage h image → cache_of h image ≡ k → IsReadable k
readable_by h image k fits is same = rw (← same) (image_readable h image fits is)

-- what a rewrite writes, from what was read
pub record IsNewImage (h : Layout) (cells : List ℕ) (p : Parts) (o : Option Offset) (k : CacheState) : Type 0 where
  pub front : new_preamble p o ≡ new_preamble k.principal (offset_in k.header)
  pub spelled : image_of (rewrite_of k) ≡ new_preamble p o ++ new_texts h.version cells
  pub total : length (image_of (rewrite_of k)) ≡ length (new_preamble p o) + length (new_texts h.version cells)
  pub limit : k.limit ≡ h.limit

pub is_new_image : (h : Layout) (image bytes cells : List ℕ) (p : Parts) (o : Option Offset) (k : CacheState) → cache_of h image ≡ k → bytes ≡ image → cells ≡ drop h.places.first bytes → p ≡ k.principal → o ≡ offset_in k.header → IsNewImage h cells p o k
is_new_image h image bytes cells p o k same is_bytes is_cells is_p is_o =
    let front : new_preamble p o ≡ new_preamble k.principal (offset_in k.header) = ap (λ (q : Parts). new_preamble q o) is_p ∙ ap (new_preamble k.principal) is_o in
    let texts : new_texts h.version cells ≡ flat_map new_text k.contents.cells =
    ap (new_texts h.version) (is_cells ∙ ap (drop h.places.first) is_bytes) ∙ ap (λ (s : CacheState). flat_map new_text s.contents.cells) same in
    let spelled : image_of (rewrite_of k) ≡ new_preamble p o ++ new_texts h.version cells =
    image_is k ∙ ap (λ (b : List ℕ). b ++ flat_map new_text k.contents.cells) (sym front) ∙ ap (λ (b : List ℕ). new_preamble p o ++ b) (sym texts) in
    record {
      front = front;
      spelled = spelled;
      total = ap length spelled ∙ length-append (new_preamble p o) (new_texts h.version cells);
      limit = ap (λ (s : CacheState). s.limit) (sym same);
    }

-- the new image holds the rewritten cache
pub new_image_held : (h : Layout) (image new : List ℕ) (k : CacheState) (front first len : ℕ) → IsBytes image → IsImage h image → cache_of h image ≡ k → IsBytes new → new ≡ image_of (rewrite_of k)
    → front ≡ length (header V4 (new_header (offset_in k.header))) → first ≡ length (new_preamble k.principal (offset_in k.header)) → len ≡ length (image_of (rewrite_of k)) → len ≤ k.limit
    → Holds (record { version = V4; limit = h.limit; places = record { principal = 2 + front; first = first; end = len } }) new (rewrite_of k)
new_image_held h image new k front first len fits is same new_fits spelled is_front is_first is_len within =
    let limit : h.limit ≡ k.limit = ap (λ (s : CacheState). s.limit) same in
    rewrite_held k new h.limit (2 + front) first len (readable_by h image k fits is same) new_fits spelled limit (omega (arith, limit, within, is_len)) (ap (λ (n : ℕ). 2 + n) is_front) is_first is_len

-- ---- cursors

-- the credentials of the image that is replaced are this store
pub record IsOldStore (v : Version) (image : List ℕ) (first end : ℕ) (k : CacheState) : Type 0 where
  pub ahead : first ≤ end
  pub are : AreCells (seen_in (credentials_format v) (store_cell v)) (take (end - first) (drop first image))
  pub store : store_in (seen_in (credentials_format v) (store_cell v)) image first end ≡ store_of k

pub old_store : (h : Layout) (image bytes : List ℕ) (k : CacheState) → bytes ≡ image → IsBytes image → IsImage h image → cache_of h image ≡ k → (store_of k).fault ≡ None → IsOldStore h.version bytes h.places.first h.places.end k
old_store h image bytes k is_bytes fits is same no_fault =
    let v = h.version in
    let text = take (h.places.end - h.places.first) (drop h.places.first image) in
    let are = image_credentials h image text k fits is same refl in
    let version : v ≡ k.version = ap (λ (x : CacheState). x.version) same in
    rw is_bytes (record {
      ahead = first_ahead h image (image_parts h image fits is);
      are = image_cells v text k h.places.first (IsBytes-take (h.places.end - h.places.first) (drop h.places.first image) (IsBytes-drop h.places.first image fits)) version are;
      store = rw (version, are.contents, are.place, no_fault) refl;
    })

-- rewrites the list in a clause about an `Ok` result by an equation
pub ok_same : {X E : Type 0} (result : Result X E) (items : X → List ℕ) (a b : List ℕ) → a ≡ b → IfOk result (λ v. items v ≡ a) → IfOk result (λ v. items v ≡ b)
ok_same result items a b same is = search arith
