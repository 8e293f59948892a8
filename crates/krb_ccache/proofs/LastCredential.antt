-- A cache with a credential appended.
use Rattle.krb_ccache.proofs.Cited.{◌≡◌, ℕ, ◌+◌, ◌<◌, ◌≤◌, false, Result, Ok, Err, List, [], ◌∷◌, ◌++◌, length, replicate, refl, sym, ap, subst, ◌∙◌, append_assoc, length-append, arith, map, Some, IfOk, ◌==◌, find, lt-ltb, le-ltb, flat_map, splice, append-nil, length-replicate, IsBytes, end_of, end_from, Version, V4, Layout, CredParts, credential, FitsCredential, is_marked, CacheState, image_of, store_of, first_place, store_cell, placed_from, credential_at_place, with_last, append_result, IsImage, cache_of, Holds, flat_map-append, ok_is, all_join}
use Rattle.krb_walk.specs.declared.refusal.Code.TheVariants.{Full}
use Rattle.krb_walk.specs.declared.refusal.Refusal.{Refusal}
use Rattle.krb_walk.specs.Rules.{PutGives}
use Rattle.krb_walk.specs.Changes.{Puts}
use Rattle.krb_ccache.proofs.CellLemmas.{end_is}
use Rattle.krb_ccache.proofs.CacheLemmas.{IsReadable, layout_of, image_readable, holds, layout_is}
use Rattle.krb_ccache.proofs.MarkLemmas.{splice_part}
use Rattle.krb_ccache.proofs.MarkImage.{image_len, front_of, front_first}
use Rattle.krb_ccache.proofs.CredentialField.{credential_field}
use Rattle.krb_ccache.proofs.ImageLemmas.{image_end}

-- bytes written over zeros at the end are appended
pub put_last : (old new text : List ℕ) (n at to : ℕ) → at ≡ length old → to ≡ at + length text → n ≡ length text → new ≡ splice (old ++ replicate n 0) at to text → new ≡ old ++ text
put_last old new text n at to is_at is_to is_n put =
    let part = splice_part old (replicate {A = ℕ} n 0) text [] at to is_at (omega (arith, is_to, is_n, length-replicate {A = ℕ} n 0)) in
    put ∙ simp append-nil at part

group : (x a c : List ℕ) → x ++ ((a ++ (c ++ [])) ++ []) ≡ (x ++ (a ++ [])) ++ c
group x a c = simp (append_assoc, append-nil)

-- the image with the credential appended, if nothing follows the last one
pub last_spelled : (k : CacheState) (c : CredParts) → k.contents.end ≡ [] → image_of (with_last k c) ≡ image_of k ++ credential k.version c
last_spelled k c whole =
    let f = credential k.version in
    let x = front_of k in
    let cs = k.contents.cells in
    front_first (with_last k c) ∙ ap (λ (t : List ℕ). x ++ (t ++ k.contents.end)) (flat_map-append f cs (c ∷ []))
    ∙ ap (λ (t : List ℕ). x ++ ((flat_map f cs ++ (f c ++ [])) ++ t)) whole ∙ group x (flat_map f cs) (f c)
    ∙ ap (λ (t : List ℕ). (x ++ (flat_map f cs ++ t)) ++ f c) (sym whole) ∙ ap (λ (t : List ℕ). t ++ f c) (sym (front_first k))

pub last_readable : (k : CacheState) (c : CredParts) → IsReadable k → FitsCredential k.version c → length (image_of (with_last k c)) ≤ k.limit → IsReadable (with_last k c)
last_readable k c kept fit within = search (arith, all_join)

-- a version 4 cache with nothing after its last credential, and the layout of its image
pub record IsAppendable (h : Layout) (k : CacheState) : Type 0 where
  pub readable : IsReadable k
  pub layout : h ≡ layout_of k
  pub version : k.version ≡ V4
  pub whole : k.contents.end ≡ []

-- the cache of an image whose end and version let it be appended to
pub image_appendable : (h : Layout) (image : List ℕ) (k : CacheState) → IsBytes image → IsImage h image → cache_of h image ≡ k → k.contents.end ≡ [] → k.version ≡ V4 → IsAppendable h k
image_appendable h image k fits is same whole version = search (arith, image_readable, layout_is)

-- the cache that an image in memory holds can be appended to, and the image ends where its cells do
pub appendable_held : {h : Layout} {bytes image : List ℕ} {k : CacheState} → bytes ≡ image → IsBytes bytes → IsImage h image → cache_of h image ≡ k → k.contents.end ≡ [] → k.version ≡ V4 → IsAppendable h k × (length image ≡ h.places.end)
appendable_held {h} {bytes} {image} {k} same fits is held whole version =
    let image_fits = subst IsBytes same fits in
    (image_appendable h image k image_fits is held whole version, image_end h image k image_fits is held whole)

pub appendable_len : (h : Layout) (k : CacheState) → IsAppendable h k → length (image_of k) ≡ h.places.end
appendable_len h k a = omega (arith, image_len k, ap (λ (x : Layout). x.places.end) a.layout, ap length a.whole)

last_len : (h : Layout) (k : CacheState) (c : CredParts) → IsAppendable h k → length (image_of (with_last k c)) ≡ h.places.end + length (credential V4 c)
last_len h k c a = omega (arith, ap length (last_spelled k c a.whole), length-append (image_of k) (credential k.version c), appendable_len h k a, ap (λ (v : Version). length (credential v c)) a.version)

-- the new image holds the cache with the credential appended
pub last_holds : (h : Layout) (k : CacheState) (new : List ℕ) (c : CredParts) (len end : ℕ) → IsAppendable h k → IsBytes new → FitsCredential V4 c → len ≡ length (credential V4 c) → h.places.end + len ≤ h.limit → end ≡ h.places.end + len → new ≡ image_of k ++ credential V4 c
    → Holds (record { version = h.version; limit = h.limit; places = record { principal = h.places.principal; first = h.places.first; end = end } }) new (with_last k c)
last_holds h k new c len end a new_fits fit is_len room is_end put =
    let spelled : image_of (with_last k c) ≡ image_of k ++ credential V4 c = last_spelled k c a.whole ∙ ap (λ (v : Version). image_of k ++ credential v c) a.version in
    let readable = last_readable k c a.readable (subst (λ (v : Version). FitsCredential v c) (sym a.version) fit) (omega (arith, last_len h k c a, is_len, room, ap (λ (x : Layout). x.limit) a.layout)) in
    let place : end ≡ end_of (store_of (with_last k c)) = omega (arith, is_end, is_len, image_len (with_last k c), last_len h k c a, ap length a.whole) in
    holds (with_last k c) _ new readable new_fits (put ∙ sym spelled) (rw (a.layout, place) refl)

-- ---- what an addition gives

pub append_full : (h : Layout) (k : CacheState) (c : CredParts) → IsAppendable h k → h.limit < h.places.end + length (credential V4 c) → append_result k c ≡ Err Full
append_full h k c a long = search (arith, lt-ltb, last_len)

pub append_fits : (h : Layout) (k : CacheState) (c : CredParts) → IsAppendable h k → h.places.end + length (credential V4 c) ≤ h.limit → append_result k c ≡ Ok (end_of (store_of k), with_last k c)
append_fits h k c a short = search (arith, le-ltb, last_len)

pub append_puts : (k new : CacheState) (c : CredParts) (result : Result ℕ Refusal) → PutGives (append_result k c) k result new → Puts (store_of k) (store_of (with_last k c)) (end_of (store_of k)) → IfOk result (Puts (store_of k) (store_of new))
append_puts k new c result gives puts = search (arith, ok_is)

-- ---- where it is

found_last : (v : Version) (at p : ℕ) (cs : List CredParts) (c : CredParts) → p ≡ end_from at (map (store_cell v) cs) → find (λ x. x.0 == p) (placed_from v at (cs ++ c ∷ [])) ≡ Some (p, c)
found_last v at p [] c is = search arith
found_last v at p (d ∷ cs) c is = search (arith, credential_field, end_is, found_last v (at + length (credential v d)) p cs c is)

last_there : (k : CacheState) (c : CredParts) → is_marked c ≡ false → credential_at_place (with_last k c) (end_of (store_of k)) ≡ Some c
last_there k c live = rw (found_last k.version (first_place k) (end_of (store_of k)) k.contents.cells c refl, live) refl

-- an added credential is at the place that was returned
pub put_there : (k old new : CacheState) (c : CredParts) (result : Result ℕ Refusal) → is_marked c ≡ false → PutGives (append_result k c) old result new → IfOk result (λ p. credential_at_place new p ≡ Some c)
put_there k old new c result live gives = search (arith, ok_is, last_there)
