-- Where the parts of an image are.
use Rattle.krb_ccache.proofs.Cited.{◌≡◌, ℕ, ◌+◌, ◌-◌, ◌≤◌, List, [], ◌++◌, length, take, drop, Option, Some, None, Ok, Err, sym, ap, ◌∙◌, append_assoc, length-append, arith, option_map, unwrap_or, flat_map, drop_at, take-append-drop, Parts, cc_principal, cc_principal_at, IsBytes, IsBytes-drop, Takes, cc_principal_field, Contents, contents, Version, CredParts, credential, credential_at, Field, header, header_at, header_end, credentials_format, open_default, open_header, header_in, empty_name, principal_in, cache_of, credentials_len, ArePlaces, Places}
use Rattle.krb_ccache.specs.declared.open.CcOpenFault.TheVariants.{BadHeader, BadDefault}
use Rattle.krb_ccache.proofs.HeaderFields.{header_takes}
use Rattle.krb_ccache.proofs.CellLemmas.{read_one, read_none, end_is}

-- ---- how many bytes the credentials take

pub len_step : (v : Version) (bytes : List ℕ) (c : CredParts) (after : List ℕ) → IsBytes bytes → credential_at v bytes ≡ Some (c, after) → credentials_len v bytes + length after ≡ length bytes + credentials_len v after
len_step v bytes c after fits e =
    let r = read_one v bytes c after fits e in
    rw r.cells (omega (arith, r.len, length-append (credential v c) (flat_map (credential v) (contents (credentials_format v) after).cells)))

pub len_end : (v : Version) (bytes : List ℕ) → IsBytes bytes → credential_at v bytes ≡ None → credentials_len v bytes ≡ 0
len_end v bytes fits e = ap (λ (k : Contents CredParts (List ℕ)). length (flat_map (credential v) k.cells)) (read_none v bytes fits e)

-- ---- what is left of an image

-- an image ends with these bytes
pub record EndsWith (image after : List ℕ) : Type 0 where
  pub before : List ℕ
  pub parts : image ≡ before ++ after

pub tail_is : (image after : List ℕ) → EndsWith image after → (length after ≤ length image) × (drop (length image - length after) image ≡ after)
tail_is image after e =
    let len = ap length e.parts ∙ length-append e.before after in
    (omega (arith, len), ap (drop (length image - length after)) e.parts ∙ drop_at e.before after (length image - length after) (omega (arith, len)))

after_takes : (image a text b : List ℕ) → EndsWith image a → Takes a text b → EndsWith image b
after_takes image a text b e t = record { before = e.before ++ text; parts = e.parts ∙ ap (λ (x : List ℕ). e.before ++ x) t.parts ∙ sym (append_assoc e.before text b) }

-- a header that was skipped was read
pub record PassedHeader (v : Version) (rest after : List ℕ) : Type 0 where
  pub fields : List Field
  pub read : header_at v rest ≡ Some (fields, after)

passed_by : (o : Option (List Field × List ℕ)) (after : List ℕ) → option_map (λ x. x.1) o ≡ Some after → (xs : List Field) × (o ≡ Some (xs, after))
passed_by (Some x) after e = (x.0, ap (λ (b : List ℕ). Some (x.0, b)) cc)
passed_by None after e = absurd cc

pub passed : (v : Version) (rest after : List ℕ) → header_end v rest ≡ Some after → PassedHeader v rest after
passed v rest after e = search (arith, passed_by)

pub no_header : (v : Version) (rest : List ℕ) (limit : ℕ) → header_end v rest ≡ None → open_header v limit (header_at v rest) ≡ Err BadHeader
no_header v rest limit e = search arith

pub no_default : (v : Version) (rest after : List ℕ) (limit : ℕ) → header_end v rest ≡ Some after → cc_principal_at after ≡ None → open_header v limit (header_at v rest) ≡ Err BadDefault
no_default v rest after limit e none = search (arith, passed)

-- an image ends with what is left after its version, after its header and after its default principal
pub record IsFront (v : Version) (image rest after cells : List ℕ) : Type 0 where
  pub rest_ends : EndsWith image rest
  pub after_ends : EndsWith image after
  pub cells_end : EndsWith image cells

pub front_is : (v : Version) (image rest after : List ℕ) (p : Parts) (cells : List ℕ) → IsBytes image → rest ≡ drop 2 image → header_end v rest ≡ Some after → cc_principal_at after ≡ Some (p, cells) → IsFront v image rest after cells
front_is v image rest after p cells fits is_rest passes read =
    let h = passed v rest after passes in
    let start : EndsWith image rest = record { before = take 2 image; parts = rw is_rest (sym (take-append-drop 2 image)) } in
    let th = header_takes v rest (h.fields, after) (rw is_rest (IsBytes-drop 2 image fits)) h.read in
    let tp = cc_principal_field.takes after (p, cells) th.rest_fits read in
    let two = after_takes image rest (header v h.fields) after start th in
    record { rest_ends = start; after_ends = two; cells_end = after_takes image after (cc_principal p) cells two tp.0 }

pub header_is : (v : Version) (image after : List ℕ) (xs : List Field) → header_at v (drop 2 image) ≡ Some (xs, after) → header_in v image ≡ xs
header_is v image after xs e = ap (λ (o : Option (List Field × List ℕ)). unwrap_or (option_map (λ x. x.0) o) []) e

pub name_is : (bytes after : List ℕ) (p : Parts) → cc_principal_at bytes ≡ Some (p, after) → principal_in bytes ≡ p
name_is bytes after p e = ap (λ (o : Option (Parts × List ℕ)). unwrap_or (option_map (λ x. x.0) o) empty_name) e

pub places_are : (v : Version) (image rest after : List ℕ) (p : Parts) (cells : List ℕ) (n : ℕ) → IsBytes image → rest ≡ drop 2 image → header_end v rest ≡ Some after → cc_principal_at after ≡ Some (p, cells) → n ≡ credentials_len v cells → n ≤ length cells
    → ArePlaces v image (record { principal = length image - length after; first = length image - length cells; end = length image - length cells + n })
places_are v image rest after p cells n fits is_rest passes read is_n le =
    let h = passed v rest after passes in
    let front = front_is v image rest after p cells fits is_rest passes read in
    let ta = tail_is image after front.after_ends in
    let tc = tail_is image cells front.cells_end in
    let there : header_at v (drop 2 image) ≡ Some (h.fields, after) = ap (header_at v) (sym is_rest) ∙ h.read in
    let named : cc_principal_at (drop (length image - length after) image) ≡ Some (p, cells) = ap cc_principal_at ta.1 ∙ read in
    record {
      header = rw (header_is v image after h.fields there, ta.1) there;
      principal_within = omega arith;
      principal = rw (name_is _ cells p named, tc.1) named;
      first_within = omega arith;
      end = rw (tc.1, is_n) (sym (end_is v (length image - length cells) (contents (credentials_format v) cells).cells));
      end_within = omega (arith, tc.0, le);
    }

-- an image with these places opens as the cache that it holds
pub opens : (v : Version) (limit : ℕ) (image : List ℕ) (places : Places) → ArePlaces v image places → open_header v limit (header_at v (drop 2 image)) ≡ Ok (cache_of (record { version = v; limit = limit; places = places }) image)
opens v limit image places are = ap (open_header v limit) are.header ∙ ap (open_default v limit (header_in v image)) are.principal
