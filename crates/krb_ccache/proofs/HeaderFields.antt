-- A header is spelled by the bytes that it is read from, and is read back.
use Rattle.krb_ccache.proofs.Cited.{nat_tests, ◌≡◌, ℕ, ◌<◌, List, [], ◌++◌, length, Some, refl, ap, subst, ◌∙◌, append_assoc, arith, Option, None, is_some, ◌==◌, flat_map, filter_map, cons_option, append-nil, w16, Big, digits, data16, data16_at, IsBytes, bind_some, some_is, Takes, Takes-then, IsField, data16_field, Contents, contents, IsFormat, contents_spelled, unframed_format, reads_one, reads_none, Version, V3, V4, Offset, Field, field, FitsField, header, field_at, fields_format, only_cells, fields_in, header_at, IsShort, offset_of, first_of, IsBytes-front, IsBytes-back}
use Rattle.krb_ccache.proofs.Fields.{field16, some_more, step}

field_takes : (bytes : List ℕ) (x : Field × List ℕ) → IsBytes bytes → field_at bytes ≡ Some x → Takes bytes (field x.0) x.1 × FitsField x.0
unfolding field_at
field_takes bytes x fits e =
    step field16 bytes _ x fits e (λ tag r1 t1 f1 e1. step (data16_field Big) r1 _ x t1.rest_fits e1 (λ value r2 t2 f2 e2.
    rw (← some_is (record { tag = tag; value = value }, r2) x e2) (Takes-then _ _ _ _ _ t1 t2, record { tag = f1; value = f2 })))

field_again : (x : Field) (rest : List ℕ) → FitsField x → field_at (field x ++ rest) ≡ Some (x, rest)
unfolding field_at
field_again x rest fits =
    ap field_at (append_assoc (digits Big w16 x.tag) (data16 Big x.value) rest)
    ∙ rw (field16.again x.tag (data16 Big x.value ++ rest) fits.tag, (data16_field Big).again x.value rest fits.value) refl

pub field_field : IsField field_at field FitsField
field_field = search (arith, field_takes, field_again, some_more, field16)

pub fields_are : IsFormat fields_format
fields_are = unframed_format field_field

whole_by : (bytes : List ℕ) (cells : List Field) (end : List ℕ) (xs : List Field) → bytes ≡ flat_map field cells ++ end → only_cells cells end ≡ Some xs → bytes ≡ flat_map field xs
whole_by bytes cells end xs parts e = search (arith, append-nil, some_is)

-- the fields spell the bytes that they fill
pub fields_spell : (bytes : List ℕ) (xs : List Field) → IsBytes bytes → fields_in bytes ≡ Some xs → bytes ≡ flat_map field xs
fields_spell bytes xs fits e =
    let k = contents fields_format bytes in
    whole_by bytes k.cells k.end xs (contents_spelled fields_format bytes fields_are fits).parts e

-- fields that fill a header are read back, whatever follows
header_by : (text : List ℕ) (xs : List Field) (rest : List ℕ) → IsShort text → fields_in text ≡ Some xs → header_at V4 (data16 Big text ++ rest) ≡ Some (xs, rest)
unfolding header_at
header_by text xs rest short filled = rw ((data16_field Big).again text rest short, filled) refl

-- a header spells the bytes that it is read from, and is read back, whatever follows
pub header_parts : (v : Version) (bytes : List ℕ) (x : List Field × List ℕ) → IsBytes bytes → header_at v bytes ≡ Some x → Takes bytes (header v x.0) x.1 × ((rest : List ℕ) → header_at v (header v x.0 ++ rest) ≡ Some (x.0, rest))
unfolding header_at
header_parts V3 bytes x fits e = rw (← some_is ([], bytes) x e) (record { parts = refl; rest_fits = fits }, λ rest. refl)
header_parts V4 bytes x fits e =
    let a = bind_some (data16_at Big bytes) _ x e in
    let b = bind_some (fields_in a.0.0) _ x a.2 in
    let ta = (data16_field Big).takes bytes a.0 fits a.1 in
    let inner : IsBytes a.0.0 = IsBytes-back (digits Big w16 (length a.0.0)) a.0.0 (IsBytes-front (data16 Big a.0.0) a.0.1 (subst IsBytes ta.0.parts fits)) in
    let same = fields_spell a.0.0 b.0 inner b.1 in
    let P : List Field × List ℕ → Type 0 = λ y. Takes bytes (header V4 y.0) y.1 × ((rest : List ℕ) → header_at V4 (header V4 y.0 ++ rest) ≡ Some (y.0, rest)) in
    let Q : List ℕ → Type 0 = λ t. Takes bytes (data16 Big t) a.0.1 × ((rest : List ℕ) → header_at V4 (data16 Big t ++ rest) ≡ Some (b.0, rest)) in
    subst P (some_is (b.0, a.0.1) x b.2) (subst Q same (ta.0, λ rest. header_by a.0.0 b.0 rest ta.1 b.1))

pub header_takes : (v : Version) (bytes : List ℕ) (x : List Field × List ℕ) → IsBytes bytes → header_at v bytes ≡ Some x → Takes bytes (header v x.0) x.1
header_takes v bytes x fits e = (header_parts v bytes x fits e).0

-- ---- one field after the other

pub fields_step : (bytes : List ℕ) (x : Field) (after : List ℕ) → IsBytes bytes → field_at bytes ≡ Some (x, after) → is_some (fields_in bytes) ≡ is_some (fields_in after)
fields_step bytes x after fits e = let r = reads_one field_field bytes x after fits e in grind (arith, nat_tests, r.cells, r.end)

pub fields_end : (bytes : List ℕ) → IsBytes bytes → field_at bytes ≡ None → is_some (fields_in bytes) ≡ (length bytes == 0)
fields_end bytes fits e = let none = reads_none field_field bytes fits e in grind (arith, nat_tests, none)

pub field_shrinks : (bytes : List ℕ) (x : Field) (after : List ℕ) → IsBytes bytes → field_at bytes ≡ Some (x, after) → length after < length bytes
field_shrinks bytes x after fits e = let r = reads_one field_field bytes x after fits e in let len = r.len in let some = r.some in omega (arith, len, some)

pub field_left : (bytes : List ℕ) (x : Field) (after : List ℕ) → IsBytes bytes → field_at bytes ≡ Some (x, after) → IsBytes after
field_left bytes x after fits e = (reads_one field_field bytes x after fits e).fits

-- the first offset among the fields that the bytes begin with
abbrev pub offset_among : List ℕ → Option Offset
offset_among bytes = first_of (filter_map offset_of (contents fields_format bytes).cells)

offset_cons : (bytes : List ℕ) (x : Field) (after : List ℕ) → IsBytes bytes → field_at bytes ≡ Some (x, after) → offset_among bytes ≡ first_of (cons_option (offset_of x) (filter_map offset_of (contents fields_format after).cells))
offset_cons bytes x after fits e = ap (λ (cs : List Field). first_of (filter_map offset_of cs)) (reads_one field_field bytes x after fits e).cells

pub offset_found : (bytes : List ℕ) (x : Field) (after : List ℕ) (p : Offset) → IsBytes bytes → field_at bytes ≡ Some (x, after) → offset_of x ≡ Some p → offset_among bytes ≡ Some p
offset_found bytes x after p fits e is = rw (offset_cons bytes x after fits e, is) refl

pub offset_step : (bytes : List ℕ) (x : Field) (after : List ℕ) → IsBytes bytes → field_at bytes ≡ Some (x, after) → offset_of x ≡ None → offset_among bytes ≡ offset_among after
offset_step bytes x after fits e is = rw (offset_cons bytes x after fits e, is) refl

pub offset_end : (bytes : List ℕ) → IsBytes bytes → field_at bytes ≡ None → offset_among bytes ≡ None
offset_end bytes fits e = ap (λ (k : Contents Field (List ℕ)). first_of (filter_map offset_of k.cells)) (reads_none field_field bytes fits e)
