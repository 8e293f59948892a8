-- What is written before the credentials of a new cache.
use Rattle.krb_ccache.proofs.Cited.{◌≡◌, ℕ, ◌+◌, ◌≤◌, false, Ok, List, [], ◌∷◌, ◌++◌, length, Some, Option, refl, sym, ap, subst, ◌∙◌, length-append, arith, nat_lt, le-ltb, w16, w32, cast_unsigned, append-nil, Big, Parts, digits, cc_principal, FitsCc, IsBytes, next_by, V4, Offset, CredParts, number32, header, header_at, image_of, first_place, new_header, new_preamble, empty_cache, create_result, Holds, IsBytes-front, IsBytes-back}
use Rattle.krb_ccache.proofs.Reopening.{header_again}
use Rattle.krb_ccache.proofs.CacheLemmas.{IsReadable, holds}
use Rattle.krb_ccache.proofs.Splits.{no_credential}

-- the header of an offset, number by number
pub offset_text : (offset : Option Offset) (o : Offset) (s m : ℕ) → offset ≡ Some o → s ≡ cast_unsigned w32 o.seconds → m ≡ cast_unsigned w32 o.micros
    → digits Big w16 12 ++ (digits Big w16 1 ++ (digits Big w16 8 ++ (number32 s ++ number32 m))) ≡ header V4 (new_header offset)
offset_text offset o s m is is_s is_m = rw (is, is_s, is_m) refl

pub header_read : (offset : Option Offset) (rest : List ℕ) → IsBytes (header V4 (new_header offset)) → header_at V4 (header V4 (new_header offset) ++ rest) ≡ Some (new_header offset, rest)
header_read offset rest fits = header_again V4 (new_header offset) rest (search arith) fits

-- ---- a new cache

pub front_is : (p : Parts) (offset : Option Offset) (limit : ℕ) → image_of (empty_cache p offset limit) ≡ new_preamble p offset
front_is p offset limit = ap (λ (b : List ℕ). 5 ∷ 4 ∷ (header V4 (new_header offset) ++ b)) (append-nil (cc_principal p))

empty_readable : (p : Parts) (offset : Option Offset) (limit : ℕ) → FitsCc p → IsBytes (new_preamble p offset) → length (new_preamble p offset) ≤ limit → limit ≤ 1073741824 → IsReadable (empty_cache p offset limit)
empty_readable p offset limit fit fits within small =
    let named : IsBytes (header V4 (new_header offset) ++ cc_principal p) = IsBytes-back (5 ∷ 4 ∷ []) (header V4 (new_header offset) ++ cc_principal p) fits in
    record {
      header = λ rest. header_read offset rest (IsBytes-front (header V4 (new_header offset)) (cc_principal p) named);
      principal = fit;
      cells = tt;
      end = ap (next_by {C = CredParts} []) (no_credential V4);
      within = omega (arith, within, ap length (front_is p offset limit));
      limit_fits = small;
    }

-- the written preamble is an image that holds the new cache
pub empty_held : (p : Parts) (offset : Option Offset) (limit : ℕ) (image : List ℕ) (principal first : ℕ) → FitsCc p → IsBytes image → image ≡ new_preamble p offset → length (new_preamble p offset) ≤ limit → limit ≤ 1073741824
    → principal ≡ 2 + length (header V4 (new_header offset)) → first ≡ length (new_preamble p offset)
    → Holds (record { version = V4; limit = limit; places = record { principal = principal; first = first; end = first } }) image (empty_cache p offset limit)
empty_held p offset limit image principal first fit fits is within small is_principal is_first =
    let k = empty_cache p offset limit in
    let place : first ≡ first_place k = omega (arith, is_first, length-append (header V4 (new_header offset)) (cc_principal p)) in
    holds k _ image (empty_readable p offset limit fit (subst IsBytes is fits) within small) fits (is ∙ sym (front_is p offset limit)) (rw (is_principal, place) refl)

pub create_fits : (p : Parts) (offset : Option Offset) (limit : ℕ) → length (new_preamble p offset) ≤ limit → create_result p offset limit ≡ Ok (empty_cache p offset limit)
create_fits p offset limit short =
    let room : nat_lt limit (length (image_of (empty_cache p offset limit))) ≡ false = le-ltb _ _ (omega (arith, short, ap length (front_is p offset limit))) in
    rw room refl
