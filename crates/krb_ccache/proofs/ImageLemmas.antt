-- Facts about an image that is a cache.
use Rattle.krb_ccache.proofs.Cited.{◌≡◌, ◌≢◌, ℕ, ◌+◌, ◌-◌, ◌≤◌, List, [], ◌∷◌, ◌++◌, length, get_or, take, drop, map, Some, None, ap, ◌∙◌, length-append, arith, Ok, flat_map, le-ltb, length-drop, length-take, cc_principal, IsBytes, IsBytes-drop, Takes, bind_some, some_is, cc_principal_field, Contents, contents, IsSpelled, end_from, end_of, contents_spelled, AreCells, seen_in, Version, Layout, CredParts, credential, Field, header, header_at, only_cells, offset_in, header_offset, CacheState, credentials_format, store_cell, version_byte, version_in, open_result, image_of, fault_kind, first_place, store_of, header_in, principal_in, cache_of, IsImage, AreCredentials, headed}
use Rattle.krb_walk.specs.declared.fault.FaultKind.TheVariants.{BadCredential}
use Rattle.krb_cells.proofs.Formats.{are_cells}
use Rattle.krb_ccache.proofs.HeaderFields.{header_takes}
use Rattle.krb_ccache.proofs.CellLemmas.{credentials_are, credentials_seen, end_is}
use Rattle.krb_ccache.proofs.PlaceLemmas.{opens}
use Rattle.krb_ccache.proofs.Splits.{bare_at}

-- where the parts of an image are, and what they spell
pub record ImageParts (h : Layout) (image : List ℕ) : Type 0 where
  pub first : h.places.first ≡ first_place (cache_of h image)
  pub spells : image ≡ image_of (cache_of h image)
  pub spelled : IsSpelled (credentials_format h.version) (drop h.places.first image) (contents (credentials_format h.version) (drop h.places.first image))
  pub end : h.places.end ≡ h.places.first + length (flat_map (credential h.version) (contents (credentials_format h.version) (drop h.places.first image)).cells)
  pub total : length image ≡ h.places.end + length (contents (credentials_format h.version) (drop h.places.first image)).end

pub image_parts : (h : Layout) (image : List ℕ) → IsBytes image → IsImage h image → ImageParts h image
image_parts h image fits is =
    let v = h.version in
    let xs = header_in v image in
    let p = principal_in (drop h.places.principal image) in
    let bytes = drop h.places.first image in
    let k = contents (credentials_format v) bytes in
    let th : Takes (drop 2 image) (header v xs) (drop h.places.principal image) = header_takes v (drop 2 image) (xs, drop h.places.principal image) (IsBytes-drop 2 image fits) is.parts.header in
    let tp : Takes (drop h.places.principal image) (cc_principal p) bytes = (cc_principal_field.takes (drop h.places.principal image) (p, bytes) th.rest_fits is.parts.principal).0 in
    let spelled = contents_spelled (credentials_format v) bytes (credentials_are v) tp.rest_fits in
    let len = length-drop h.places.first image in
    let end = is.parts.end ∙ end_is v h.places.first k.cells in
    record {
      first = omega (arith, is.long, length-drop 2 image, length-drop h.places.principal image, len, ap length th.parts ∙ length-append (header v xs) (drop h.places.principal image), ap length tp.parts ∙ length-append (cc_principal p) bytes, is.parts.principal_within, is.parts.first_within);
      spells =
          headed image is.long ∙ ap (λ (a : ℕ). a ∷ get_or image 1 0 ∷ drop 2 image) is.first_byte ∙ ap (λ (b : ℕ). 5 ∷ b ∷ drop 2 image) is.second_byte
          ∙ ap (λ (b : List ℕ). 5 ∷ version_byte v ∷ b) (th.parts ∙ ap (λ (b : List ℕ). header v xs ++ b) (tp.parts ∙ ap (λ (b : List ℕ). cc_principal p ++ b) spelled.parts));
      spelled = spelled;
      end = end;
      total = omega (arith, len, ap length spelled.parts ∙ length-append (flat_map (credential v) k.cells) k.end, is.parts.first_within, end);
    }

pub end_held : (h : Layout) (image : List ℕ) → ImageParts h image → IsImage h image → h.places.end ≡ end_of (store_of (cache_of h image))
end_held h image p is = is.parts.end ∙ ap (λ (n : ℕ). end_from n (map (store_cell h.version) (contents (credentials_format h.version) (drop h.places.first image)).cells)) p.first

-- if nothing follows the last credential, it ends with the image
pub image_end : (h : Layout) (image : List ℕ) (k : CacheState) → IsBytes image → IsImage h image → cache_of h image ≡ k → k.contents.end ≡ [] → length image ≡ h.places.end
image_end h image k fits is same whole =
    omega (arith, (image_parts h image fits is).total, ap (λ (x : CacheState). length x.contents.end) same, ap length whole)

-- ---- what is wrong after them

kind_by : (rest : List ℕ) → length rest ≢ 0 → Some BadCredential ≡ fault_kind rest
kind_by rest ne = search arith

no_kind_by : (rest : List ℕ) → length rest ≡ 0 → None ≡ fault_kind rest
no_kind_by rest e = search arith

pub no_fault : (h : Layout) (image : List ℕ) → ImageParts h image → h.places.end ≡ length image → None ≡ fault_kind (cache_of h image).contents.end
no_fault h image p e = let total = p.total in no_kind_by (contents (credentials_format h.version) (drop h.places.first image)).end (omega (arith, total, e))

pub some_fault : (h : Layout) (image : List ℕ) → ImageParts h image → h.places.end ≢ length image → Some BadCredential ≡ fault_kind (cache_of h image).contents.end
some_fault h image p ne = let total = p.total in kind_by (contents (credentials_format h.version) (drop h.places.first image)).end (λ e. ne (omega (arith, total, e)))

-- ---- the credentials

pub first_ahead : (h : Layout) (image : List ℕ) → ImageParts h image → h.places.first ≤ h.places.end
first_ahead h image p = let end = p.end in omega (arith, end)

pub image_credentials : (h : Layout) (image bytes : List ℕ) (k : CacheState) → IsBytes image → IsImage h image → cache_of h image ≡ k → bytes ≡ take (h.places.end - h.places.first) (drop h.places.first image)
    → AreCredentials k h.places.first bytes
image_credentials h image bytes k fits is same is_bytes =
    let p = image_parts h image fits is in
    rw (← same, is_bytes) (record {
      place = p.first;
      contents = bare_at h.version image (contents (credentials_format h.version) (drop h.places.first image)).end h.places.first h.places.end (contents (credentials_format h.version) (drop h.places.first image)).cells fits p.spelled.parts p.spelled.sound.cells p.end;
      small = omega (arith, first_ahead h image p, is.within, is.limit_fits, is.parts.end_within, length-take (h.places.end - h.places.first) (drop h.places.first image));
    })

-- the credentials of an image are cells
pub image_cells : (v : Version) (bytes : List ℕ) (k : CacheState) (first : ℕ) → IsBytes bytes → v ≡ k.version → AreCredentials k first bytes → AreCells (seen_in (credentials_format v) (store_cell v)) bytes
image_cells v bytes k first fits is are =
    are_cells (credentials_format v) (store_cell v) bytes (credentials_seen v) fits (ap (λ (w : Version). (contents (credentials_format w) bytes).end) is ∙ ap (λ (c : Contents CredParts (List ℕ)). c.end) are.contents)

-- ---- the time offset

whole_is : (cells : List Field) (end : List ℕ) (xs : List Field) → only_cells cells end ≡ Some xs → cells ≡ xs
whole_is cells end xs e = search (arith, some_is)

pub offset_is : (v : Version) (bytes : List ℕ) (xs : List Field) (after : List ℕ) → header_at v bytes ≡ Some (xs, after) → header_offset v bytes ≡ offset_in xs
unfolding header_at
offset_is v bytes xs after e = search (arith, some_is, bind_some, whole_is)

-- ---- opened again

version_is : (v : Version) (image : List ℕ) → get_or image 0 0 ≡ 5 → get_or image 1 0 ≡ version_byte v → version_in image ≡ Some v
version_is v image first second = search arith

pub reopens : (h : Layout) (most : ℕ) (image : List ℕ) → IsImage h image → h.limit ≤ most → open_result most image ≡ Ok (cache_of (record h { limit = most }) image)
reopens h most image is le = search (arith, le-ltb, version_is, opens)
