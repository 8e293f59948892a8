-- The image of a cache after a credential in it is marked, which keeps its length.
use Rattle.krb_ccache.proofs.Cited.{◌≡◌, ℕ, ◌+◌, ◌≤◌, List, ◌∷◌, ◌++◌, length, drop, Some, refl, sym, ap, subst, ◌∙◌, append_assoc, length-append, arith, flat_map, splice, AllByRecursion, drop_at, cc_principal, IsBytes, spelling, end_of, Version, Layout, CredParts, credential, credential_at, FitsCredential, header, CacheState, credentials_format, version_byte, image_of, store_of, first_place, credential_at_place, add_mark, add_mark_at, with_mark, IsImage, cache_of, Holds, flat_map-append, all_join, all_front, all_back}
use Rattle.krb_ccache.proofs.CredentialField.{credential_field}
use Rattle.krb_ccache.proofs.CellLemmas.{end_is}
use Rattle.krb_ccache.proofs.ImageLemmas.{image_parts}
use Rattle.krb_ccache.proofs.CacheLemmas.{IsReadable, image_readable, holds, layout_is}
use Rattle.krb_ccache.proofs.MarkLemmas.{IsAt, found_at, marked_one, marked_len, splice_part}

-- the bytes before the credentials
abbrev pub front_of : CacheState → List ℕ
front_of k = 5 ∷ version_byte k.version ∷ (header k.version k.header ++ cc_principal k.principal)

pub front_len : (k : CacheState) → length (front_of k) ≡ first_place k
front_len k = omega (arith, length-append (header k.version k.header) (cc_principal k.principal))

pub front_first : (k : CacheState) → image_of k ≡ front_of k ++ spelling (credentials_format k.version) k.contents
front_first k = ap (λ (b : List ℕ). 5 ∷ version_byte k.version ∷ b) (sym (append_assoc (header k.version k.header) (cc_principal k.principal) (spelling (credentials_format k.version) k.contents)))

-- the image ends where the cells do, or with what follows them
pub image_len : (k : CacheState) → length (image_of k) ≡ end_of (store_of k) + length k.contents.end
image_len k =
    let f = credential k.version in
    let cs = k.contents.cells in
    omega (arith, ap length (front_first k), length-append (front_of k) (flat_map f cs ++ k.contents.end), length-append (flat_map f cs) k.contents.end, front_len k, end_is k.version (first_place k) cs)

group : (x a c b end : List ℕ) → x ++ ((a ++ (c ++ b)) ++ end) ≡ (x ++ a) ++ (c ++ (b ++ end))
group x a c b end = simp append_assoc

-- the image, split around one of its credentials
texts : (k : CacheState) (before after : List CredParts) (c : CredParts) (end : List ℕ) → k.contents ≡ record { cells = before ++ c ∷ after; end = end }
    → image_of k ≡ (front_of k ++ flat_map (credential k.version) before) ++ (credential k.version c ++ (flat_map (credential k.version) after ++ end))
texts k before after c end is =
    let f = credential k.version in
    let x = front_of k in
    let a = flat_map f before in
    let b = flat_map f after in
    front_first k ∙ ap (λ d. x ++ spelling (credentials_format k.version) d) is ∙ ap (λ (t : List ℕ). x ++ (t ++ end)) (flat_map-append f before (c ∷ after))
    ∙ group x a (f c) b end

-- a mark keeps the numbers of a credential in their ranges
pub fits_marked : (v : Version) (c : CredParts) → FitsCredential v c → FitsCredential v (add_mark c)
fits_marked v c fit = search arith

-- a live credential at a place of an image
pub record LiveIn (h : Layout) (image : List ℕ) (place : ℕ) (c : CredParts) : Type 0 where
  pub found_at : IsAt h.version (first_place (cache_of h image)) (cache_of h image).contents.cells place c
  pub within : place ≤ length image
  pub after : List ℕ
  pub read : credential_at h.version (drop place image) ≡ Some (c, after)

pub live_in : (h : Layout) (image : List ℕ) (place : ℕ) (c : CredParts) → IsBytes image → IsImage h image → credential_at_place (cache_of h image) place ≡ Some c → LiveIn h image place c
live_in h image place c fits is live =
    let v = h.version in
    let k = cache_of h image in
    let s = found_at v (first_place k) place k.contents.cells c live in
    let x = front_of k ++ flat_map (credential v) s.before in
    let parts = (image_parts h image fits is).spells ∙ texts k s.before s.after c k.contents.end (ap (λ cs. record { cells = cs; end = k.contents.end }) s.parts) in
    let len : length x ≡ place = omega (arith, length-append (front_of k) (flat_map (credential v) s.before), front_len k, s.place, end_is v (first_place k) s.before) in
    let left = ap (drop place) parts ∙ drop_at x _ place len in
    let fit = (all_back (FitsCredential v) s.before (c ∷ s.after) (subst (AllByRecursion (FitsCredential v)) s.parts (image_readable h image fits is).cells)).0 in
    record { found_at = s; within = omega (arith, ap length parts, length-append x (credential v c ++ (flat_map (credential v) s.after ++ k.contents.end)), len); after = flat_map (credential v) s.after ++ k.contents.end; read = rw left ((credential_field v).again c _ fit) }

-- the image with the credential marked holds the cache with the mark
pub marked_held : (h : Layout) (image new : List ℕ) (place : ℕ) (c : CredParts) → IsBytes image → IsBytes new → IsImage h image → LiveIn h image place c
    → new ≡ splice image place (place + length (credential h.version c)) (credential h.version (add_mark c)) → Holds h new (with_mark (cache_of h image) place)
marked_held h image new place c fits new_fits is live written =
    let v = h.version in
    let k = cache_of h image in
    let f = credential v in
    let kept = image_readable h image fits is in
    let s = live.found_at in
    let d = with_mark k place in
    let x = front_of k ++ flat_map f s.before in
    let rest = flat_map f s.after ++ k.contents.end in
    let spells = (image_parts h image fits is).spells in
    let parts : image ≡ x ++ (f c ++ rest) = spells ∙ texts k s.before s.after c k.contents.end (ap (λ cs. record { cells = cs; end = k.contents.end }) s.parts) in
    let len : length x ≡ place = omega (arith, length-append (front_of k) (flat_map f s.before), front_len k, s.place, end_is v (first_place k) s.before) in
    let cells : d.contents.cells ≡ s.before ++ add_mark c ∷ s.after = ap (add_mark_at v (first_place k) place) s.parts ∙ marked_one v (first_place k) place s.before s.after c s.place in
    let new_parts : image_of d ≡ x ++ (f (add_mark c) ++ rest) = texts d s.before s.after (add_mark c) k.contents.end (ap (λ cs. record { cells = cs; end = k.contents.end }) cells) in
    let is_new : new ≡ image_of d = written ∙ ap (λ (b : List ℕ). splice b place (place + length (f c)) (f (add_mark c))) parts ∙ splice_part x (f c) (f (add_mark c)) rest place (place + length (f c)) (sym len) refl ∙ sym new_parts in
    let same_len : length (image_of d) ≡ length (image_of k) =
    omega (arith, ap length new_parts, ap length parts, ap length spells, length-append x (f (add_mark c) ++ rest), length-append x (f c ++ rest), length-append (f (add_mark c)) rest, length-append (f c) rest, marked_len v c) in
    let end : end_of (store_of d) ≡ end_of (store_of k) = omega (arith, same_len, image_len d, image_len k) in
    let fit = subst (AllByRecursion (FitsCredential v)) s.parts kept.cells in
    let back = all_back (FitsCredential v) s.before (c ∷ s.after) fit in
    let new_kept : IsReadable d = record {
      header = kept.header;
      principal = kept.principal;
      cells = rw cells (all_join (FitsCredential v) s.before (add_mark c ∷ s.after) (all_front (FitsCredential v) s.before (c ∷ s.after) fit) (fits_marked v c back.0, back.1));
      end = kept.end;
      within = omega (arith, same_len, kept.within);
      limit_fits = kept.limit_fits;
    } in
    holds d h new new_kept new_fits is_new (rw end (layout_is h image fits is))
