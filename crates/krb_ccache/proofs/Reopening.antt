-- Opening the image of a cache gives that cache again.
use Rattle.krb_ccache.proofs.Cited.{◌≡◌, ℕ, false, List, [], ◌∷◌, ◌++◌, length, Some, None, Ok, refl, sym, ap, subst, ◌∙◌, arith, nat_lt, flat_map, AllByRecursion, le-ltb, append-nil, w16, Big, digits, cc_principal, IsBytes, data16_field, cc_principal_field, Contents, NoMore, contents, spelling, next_by, IsCell, contents_again, unframed_cell, Version, V3, V4, Field, field, FitsField, header, FitsHeader, field_at, fields_format, only_cells, fields_in, header_at, CacheState, credentials_format, version_byte, version_in, image_of, open_result, IsSoundCache, IsBytes-front, IsBytes-back}
use Rattle.krb_ccache.proofs.HeaderFields.{field_field, fields_are}
use Rattle.krb_ccache.proofs.CellLemmas.{credentials_are}

no_field : field_at [] ≡ None
unfolding field_at
no_field = refl

all_fields : (xs : List Field) → AllByRecursion FitsField xs → AllByRecursion (IsCell fields_format) xs
all_fields [] fit = tt
all_fields (x ∷ xs) fit = search (arith, unframed_cell, field_field, all_fields xs fit.1)

-- fields that fit fill their spelling
fields_again : (xs : List Field) → AllByRecursion FitsField xs → IsBytes (flat_map field xs) → fields_in (flat_map field xs) ≡ Some xs
fields_again xs fit fits =
    let k : Contents Field (List ℕ) = record { cells = xs; end = [] } in
    let text : flat_map field xs ≡ spelling fields_format k = sym (append-nil (flat_map field xs)) in
    let end : next_by {C = Field} [] (field_at []) ≡ NoMore [] = ap (next_by {C = Field} []) no_field in
    let again = contents_again fields_format k fields_are (record { cells = all_fields xs fit; end = end }) (subst IsBytes text fits) in
    ap (λ (b : List ℕ). only_cells (contents fields_format b).cells (contents fields_format b).end) text ∙ ap (λ (c : Contents Field (List ℕ)). only_cells c.cells c.end) again

pub header_again : (v : Version) (xs : List Field) (rest : List ℕ) → FitsHeader v xs → IsBytes (header v xs) → header_at v (header v xs ++ rest) ≡ Some (xs, rest)
unfolding header_at
header_again V3 xs rest fit fits = ap (λ (y : List Field). Some (y, rest)) (sym fit)
header_again V4 xs rest fit fits =
    let text = flat_map field xs in
    rw ((data16_field Big).again text rest fit.1, fields_again xs fit.0 (IsBytes-back (digits Big w16 (length text)) text fits)) refl

version_again : (v : Version) (rest : List ℕ) → version_in (5 ∷ version_byte v ∷ rest) ≡ Some v
version_again v rest = search arith

pub opened_again : (k : CacheState) → IsSoundCache k → IsBytes (image_of k) → open_result k.limit (image_of k) ≡ Ok k
opened_again k sound fits =
    let v = k.version in
    let text = spelling (credentials_format v) k.contents in
    let named = cc_principal k.principal ++ text in
    let rest = header v k.header ++ named in
    let rest_fits : IsBytes rest = IsBytes-back (5 ∷ version_byte v ∷ []) rest fits in
    let text_fits : IsBytes text = IsBytes-back (cc_principal k.principal) text (IsBytes-back (header v k.header) named rest_fits) in
    let long : nat_lt (length (image_of k)) 2 ≡ false = le-ltb _ _ (omega arith) in
    let within : nat_lt k.limit (length (image_of k)) ≡ false = le-ltb _ _ sound.within in
    let same : contents (credentials_format v) text ≡ k.contents = contents_again (credentials_format v) k.contents (credentials_are v) sound.contents text_fits in
    rw (long, version_again v rest, within, header_again v k.header named sound.header (IsBytes-front (header v k.header) named rest_fits), cc_principal_field.again k.principal text sound.principal, same) refl
