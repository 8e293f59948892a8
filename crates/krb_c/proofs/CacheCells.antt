-- A live credential is read in place: the cache of an image was read from it.
use Rattle.krb_c.proofs.Cited.{◌==◌, nat_lt, option_map, find, Parts, AllByRecursion, cc_principal_at, live_bytes, Version, Field, header_at, CacheState, credentials_format, version_in, open_default, open_header, open_version, open_result, store_of, first_place, placed_from, live_of, credential_at_place, ◌≡◌, ℕ, ◌+◌, Bool, true, false, cond, List, [], ◌∷◌, ◌++◌, length, drop, Option, Some, None, Result, Ok, Err, refl, sym, ap, subst, ◌∙◌, arith}
use Rattle.std.proofs.lemmas.List.{append-nil}
use Rattle.krb_wire.proofs.Fields.{IsBytes, IsBytes-drop, ok_is}
use Rattle.krb_wire.proofs.Principals.{cc_principal_field}
use Rattle.krb_cells.specs.Contents.{Contents, contents, IsCell}
use Rattle.krb_cells.proofs.ContentsLemmas.{contents_spelled}
use Rattle.krb_ccache.specs.declared.open.CcOpenFault.{CcOpenFault}
use Rattle.krb_ccache.specs.declared.open.CcOpenFault.TheVariants.{TooShort, TooLarge}
use Rattle.krb_ccache.specs.Credential.{CredParts, credential, credential_at, credential_in}
use Rattle.krb_ccache.specs.Open.{Reopens}
use Rattle.krb_ccache.proofs.HeaderFields.{header_takes}
use Rattle.krb_ccache.proofs.CellLemmas.{credentials_are}
use Rattle.krb_ccache.proofs.CacheLemmas.{cell_by}
use Rattle.krb_ccache.proofs.Splits.{live_is}

-- ---- what is opened was read

-- bytes that the contents of a cache were read from
record WasRead (k : CacheState) : Type 0 where
  bytes : List ℕ
  fits : IsBytes bytes
  are : k.contents ≡ contents (credentials_format k.version) bytes

default_read : (v : Version) (limit : ℕ) (xs : List Field) (bytes : List ℕ) (o : Option (Parts × List ℕ)) (k : CacheState) → IsBytes bytes → cc_principal_at bytes ≡ o → open_default v limit xs o ≡ Ok k → WasRead k
default_read v limit xs bytes None k fits is e = absurd cc
default_read v limit xs bytes (Some p) k fits is e =
    let t = cc_principal_field.takes bytes p fits is in
    subst WasRead (ok_is _ k e) (record { bytes = p.1; fits = t.0.rest_fits; are = refl })

header_read : (v : Version) (limit : ℕ) (bytes : List ℕ) (o : Option (List Field × List ℕ)) (k : CacheState) → IsBytes bytes → header_at v bytes ≡ o → open_header v limit o ≡ Ok k → WasRead k
header_read v limit bytes None k fits is e = absurd cc
header_read v limit bytes (Some h) k fits is e = default_read v limit h.0 h.1 (cc_principal_at h.1) k (header_takes v bytes h fits is).rest_fits refl e

unless : (refused : Bool) (why : CcOpenFault) (opened : Result CacheState CcOpenFault) (k : CacheState) → cond refused (Err why) opened ≡ Ok k → opened ≡ Ok k
unless refused why opened k e = search arith

version_read : (limit : ℕ) (bytes : List ℕ) (o : Option Version) (k : CacheState) → IsBytes bytes → open_version limit bytes o ≡ Ok k → WasRead k
version_read limit bytes None k fits e = absurd cc
version_read limit bytes (Some v) k fits e = header_read v limit (drop 2 bytes) (header_at v (drop 2 bytes)) k (IsBytes-drop 2 bytes fits) refl (unless (nat_lt limit (length bytes)) TooLarge _ k e)

opened_read : (limit : ℕ) (bytes : List ℕ) (k : CacheState) → IsBytes bytes → open_result limit bytes ≡ Ok k → WasRead k
opened_read limit bytes k fits e = version_read limit bytes (version_in bytes) k fits (unless (nat_lt (length bytes) 2) TooShort _ k e)

-- each credential of a cache is read where it is spelled
cells_sound : (k : CacheState) (image : List ℕ) → IsBytes image → Reopens k image → AllByRecursion (IsCell (credentials_format k.version)) k.contents.cells
cells_sound k image fits again =
    let f = credentials_format k.version in
    let r = opened_read k.limit image k fits (again k.limit (omega arith)) in
    subst (λ (c : Contents CredParts (List ℕ)). AllByRecursion (IsCell f) c.cells) (sym r.are) (contents_spelled f r.bytes (credentials_are k.version) r.fits).sound.cells

-- ---- the credential at a place

found_by : (v : Version) (at p : ℕ) (c x : CredParts) (cs : List CredParts) (b : Bool) → (live_of (find (λ y. y.0 == p) (placed_from v (at + length (credential v c)) cs)) ≡ Some x → IsCell (credentials_format v) x) → IsCell (credentials_format v) c
    → live_of (cond b (Some (at, c)) (find (λ y. y.0 == p) (placed_from v (at + length (credential v c)) cs))) ≡ Some x → IsCell (credentials_format v) x
found_by v at p c x cs true others cell e = let same : c ≡ x = grind (arith, e) in subst (IsCell (credentials_format v)) same cell
found_by v at p c x cs false others cell e = others e

found_cell : (v : Version) (at p : ℕ) (cs : List CredParts) (x : CredParts) → AllByRecursion (IsCell (credentials_format v)) cs → live_of (find (λ y. y.0 == p) (placed_from v at cs)) ≡ Some x → IsCell (credentials_format v) x
found_cell v at p [] x sound e = absurd cc
found_cell v at p (c ∷ cs) x sound e = found_by v at p c x cs (at == p) (λ f. found_cell v (at + length (credential v c)) p cs x sound.1 f) sound.0 e

-- the credential at a place is the one that its bytes begin with
pub record IsReadThere (k : CacheState) (p : ℕ) (bytes : List ℕ) : Type 0 where
  pub cell : CredParts
  pub there : credential_at_place k p ≡ Some cell
  pub read : credential_in k.version bytes ≡ Some cell

read_by : (k : CacheState) (p : ℕ) (bytes : List ℕ) (o : Option CredParts) → AllByRecursion (IsCell (credentials_format k.version)) k.contents.cells → credential_at_place k p ≡ o → option_map (credential k.version) o ≡ Some bytes → IsReadThere k p bytes
read_by k p bytes None sound is e = absurd cc
read_by k p bytes (Some c) sound is e =
    let v = k.version in
    let text = credential v c in
    let cell = found_cell v (first_place k) p k.contents.cells c sound is in
    let again : credential_at v (text ++ []) ≡ Some (c, []) = cell_by (text ++ []) (credential_at v (text ++ [])) c [] (cell.read []) in
    let bare : credential_at v text ≡ Some (c, []) = ap (credential_at v) (sym (append-nil text)) ∙ again in
    let same : text ≡ bytes = cc in
    record { cell = c; there = is; read = ap (credential_in v) (sym same) ∙ ap (option_map (λ x. x.0)) bare }

pub read_there : (k : CacheState) (image bytes : List ℕ) (p : ℕ) → IsBytes image → Reopens k image → live_bytes (store_of k) p ≡ Some bytes → IsReadThere k p bytes
read_there k image bytes p fits again e =
    read_by k p bytes (credential_at_place k p) (cells_sound k image fits again) refl (sym (live_is k.version (first_place k) p k.contents.cells) ∙ e)
