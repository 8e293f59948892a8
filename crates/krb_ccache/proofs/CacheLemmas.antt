-- The cache that an image holds is readable, and the image of a readable cache holds it.
use Rattle.krb_ccache.proofs.Cited.{◌≡◌, ℕ, ◌+◌, ◌≤◌, List, [], ◌∷◌, ◌++◌, length, drop, Option, Some, refl, sym, ap, subst, ◌∙◌, length-append, arith, flat_map, AllByRecursion, append-nil, drop_at, drop-drop, length-drop, cc_principal, FitsCc, cc_principal_at, IsBytes, IsBytes-drop, Takes, cc_principal_field, More, contents, spelling, next_by, IsCell, IsEnd, end_of, contents_again, Version, Layout, CredParts, credential, credential_at, FitsCredential, header, header_at, CacheState, credentials_format, image_of, store_of, first_place, header_in, principal_in, IsImage, cache_of, Holds, Places, IsBytes-front, IsBytes-back}
use Rattle.krb_ccache.proofs.CredentialField.{credential_field}
use Rattle.krb_ccache.proofs.HeaderFields.{header_parts, header_takes}
use Rattle.krb_ccache.proofs.CellLemmas.{credentials_are, end_is, all_cells}
use Rattle.krb_ccache.proofs.PlaceLemmas.{header_is, name_is}
use Rattle.krb_ccache.proofs.ImageLemmas.{image_parts, end_held}

-- a cache whose parts are read back from their spelling, and whose image is not longer than the limit
pub record IsReadable (k : CacheState) : Type 0 where
  pub header : (rest : List ℕ) → header_at k.version (header k.version k.header ++ rest) ≡ Some (k.header, rest)
  pub principal : FitsCc k.principal
  pub cells : AllByRecursion (FitsCredential k.version) k.contents.cells
  pub end : IsEnd (credentials_format k.version) k.contents.end
  pub within : length (image_of k) ≤ k.limit
  pub limit_fits : k.limit ≤ 1073741824

-- ---- what is held is kept

pub cell_by : {A : Type 0} (bytes : List ℕ) (o : Option (A × List ℕ)) (c : A) (rest : List ℕ) → next_by bytes o ≡ More c rest → o ≡ Some (c, rest)
cell_by bytes o c rest e = search arith

-- credentials that are read back from their spelling fit
pub all_fit : (v : Version) (cs : List CredParts) → AllByRecursion (IsCell (credentials_format v)) cs → IsBytes (flat_map (credential v) cs) → AllByRecursion (FitsCredential v) cs
all_fit v [] sound fits = tt
all_fit v (c ∷ cs) sound fits =
    let front : IsBytes (credential v c) = IsBytes-front (credential v c) (flat_map (credential v) cs) fits in
    let text : IsBytes (credential v c ++ []) = subst IsBytes (sym (append-nil (credential v c))) front in
    let read = cell_by (credential v c ++ []) (credential_at v (credential v c ++ [])) c [] (sound.0.read []) in
    (((credential_field v).takes (credential v c ++ []) (c, []) text read).1, all_fit v cs sound.1 (IsBytes-back (credential v c) (flat_map (credential v) cs) fits))

pub image_readable : (h : Layout) (image : List ℕ) → IsBytes image → IsImage h image → IsReadable (cache_of h image)
image_readable h image fits is =
    let v = h.version in
    let k = image_parts h image fits is in
    let bytes = drop h.places.first image in
    let cells = (contents (credentials_format v) bytes).cells in
    let spelled : IsBytes (flat_map (credential v) cells) = IsBytes-front (flat_map (credential v) cells) _ (subst IsBytes k.spelled.parts (IsBytes-drop h.places.first image fits)) in
    record {
      header = (header_parts v (drop 2 image) (header_in v image, drop h.places.principal image) (IsBytes-drop 2 image fits) is.parts.header).1;
      principal = (cc_principal_field.takes (drop h.places.principal image) (principal_in (drop h.places.principal image), bytes) (IsBytes-drop h.places.principal image fits) is.parts.principal).1;
      cells = all_fit v cells k.spelled.sound.cells spelled;
      end = k.spelled.sound.end;
      within = subst (λ (b : List ℕ). length b ≤ h.limit) k.spells is.within;
      limit_fits = is.limit_fits;
    }

-- ---- what is kept is held

-- where the parts of a cache are in its image
abbrev pub places_of : CacheState → Places
places_of k = record { principal = 2 + length (header k.version k.header); first = first_place k; end = end_of (store_of k) }

-- the layout of the image of a cache
abbrev pub layout_of : CacheState → Layout
layout_of k = record { version = k.version; limit = k.limit; places = places_of k }

pub readable_image : (k : CacheState) → IsReadable k → IsBytes (image_of k) → Holds (layout_of k) (image_of k) k
readable_image k kept fits =
    let v = k.version in
    let h = header v k.header in
    let p = cc_principal k.principal in
    let text = spelling (credentials_format v) k.contents in
    let image = image_of k in
    let after_header : drop (2 + length h) image ≡ p ++ text = sym (drop-drop (length h) 2 image) ∙ drop_at h (p ++ text) (length h) refl in
    let after_name : drop (first_place k) image ≡ text = sym (drop-drop (length p) (2 + length h) image) ∙ ap (drop (length p)) after_header ∙ drop_at p text (length p) refl in
    let read_header : header_at v (drop 2 image) ≡ Some (k.header, p ++ text) = kept.header (p ++ text) in
    let fields = header_is v image (p ++ text) k.header read_header in
    let read_name : cc_principal_at (drop (2 + length h) image) ≡ Some (k.principal, text) = ap cc_principal_at after_header ∙ cc_principal_field.again k.principal text kept.principal in
    let name = name_is (drop (2 + length h) image) text k.principal read_name in
    let text_fits : IsBytes text = subst IsBytes after_name (IsBytes-drop (first_place k) image fits) in
    let same : contents (credentials_format v) (drop (first_place k) image) ≡ k.contents =
    ap (contents (credentials_format v)) after_name ∙ contents_again (credentials_format v) k.contents (credentials_are v) (record { cells = all_cells v k.contents.cells kept.cells; end = kept.end }) text_fits in
    let len = length-append h (p ++ text) in
    let len_p = length-append p text in
    let len_t = length-append (flat_map (credential v) k.contents.cells) k.contents.end in
    record {
      kept = record {
        long = omega arith;
        first_byte = refl;
        second_byte = refl;
        within = kept.within;
        limit_fits = kept.limit_fits;
        parts = record {
          header = rw (fields, after_header) read_header;
          principal_within = omega (arith, len);
          principal = rw (name, after_name) read_name;
          first_within = omega (arith, len, len_p);
          end = rw same refl;
          end_within = omega (arith, len, len_p, len_t, end_is v (first_place k) k.contents.cells);
        };
      };
      state = rw (fields, name, same) refl;
    }

-- the image of a readable cache, with its layout, holds that cache
pub holds : (k : CacheState) (h : Layout) (image : List ℕ) → IsReadable k → IsBytes image → image ≡ image_of k → h ≡ layout_of k → Holds h image k
holds k h image kept fits is known = rw (is, known) (readable_image k kept (subst IsBytes is fits))

-- the layout of an image is that of the cache that it holds
pub layout_is : (h : Layout) (image : List ℕ) → IsBytes image → IsImage h image → h ≡ layout_of (cache_of h image)
layout_is h image fits is =
    let v = h.version in
    let k = image_parts h image fits is in
    let xs = header_in v image in
    let t : Takes (drop 2 image) (header v xs) (drop h.places.principal image) = header_takes v (drop 2 image) (xs, drop h.places.principal image) (IsBytes-drop 2 image fits) is.parts.header in
    let principal : h.places.principal ≡ 2 + length (header v xs) = omega (arith, is.long, is.parts.principal_within, ap length t.parts, length-append (header v xs) (drop h.places.principal image), length-drop 2 image, length-drop h.places.principal image) in
    rw (← end_held h image k is, ← k.first, ← principal) refl
