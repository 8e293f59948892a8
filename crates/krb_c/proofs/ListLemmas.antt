-- The lists of a credential are where it is spelled.
use Rattle.krb_c.proofs.Cited.{◌≡◌, ◌++◌, ◌∙◌, ℕ, List, Option, Some, None, option_map, length, refl, sym, ap, arith, Version, CacheState, store_of, live_bytes, credential_at_place}
use Rattle.std.specs.Prelude.{IsSomeAnd}
use Rattle.std.specs.List.{flat_map}
use Rattle.std.proofs.lemmas.List.{take_at, length-append, append_assoc}
use Rattle.krb_wire.proofs.Fields.{IsBytes, some_is}
use Rattle.krb_wire.proofs.ReadLists.{list_again}
use Rattle.krb_wire.proofs.Principals.{cc_principal_field}
use Rattle.krb_ccache.specs.Credential.{CredParts, TypedData, FitsCredential, FitsTypedList, credential, credential_at, credential_in, typed_data, typed_list, number32}
use Rattle.krb_ccache.proofs.Fields.{field32, key_field, times_field, typed_field}
use Rattle.krb_ccache.proofs.CredentialField.{credential_field}
use Rattle.krb_ccache.proofs.Splits.{live_some}
use Rattle.krb_ccache.specs.Open.{Reopens}
use Rattle.krb_c.proofs.CacheCells.{read_there}
unfoldable use Rattle.krb_c.specs.Lists.{list_bytes_at, lists_in}

list_read : (xs : List TypedData) (rest : List ℕ) → FitsTypedList xs → list_bytes_at (typed_list xs ++ rest) ≡ Some (flat_map typed_data xs, rest)
unfolding list_bytes_at
list_read xs rest fits =
    let a = flat_map typed_data xs in
    ap list_bytes_at (append_assoc (number32 (length xs)) a rest)
    ∙ rw (field32.again (length xs) (a ++ rest) fits.count, list_again typed_field xs rest fits.each)
    (ap (λ (b : List ℕ). Some (b, rest)) (take_at a rest _ (omega (arith, length-append a rest))))

lists_read : (v : Version) (c : CredParts) → FitsCredential v c → lists_in v (credential v c) ≡ Some (flat_map typed_data c.addresses, flat_map typed_data c.authdata)
unfolding lists_in
lists_read v c fits = rw (
  cc_principal_field.again c.client _ fits.client,
  cc_principal_field.again c.server _ fits.server,
  (key_field v).again c.key _ fits.key,
  times_field.again c.times _ fits.times,
  field32.again c.flags _ fits.flags,
  list_read c.addresses _ fits.addresses,
  list_read c.authdata _ fits.authdata,
) refl

first_of : (c : CredParts) (o : Option (CredParts × List ℕ)) → option_map (λ x. x.0) o ≡ Some c → (rest : List ℕ) × (o ≡ Some (c, rest))
first_of c None e = absurd cc
first_of c (Some x) e =
    let same : x.0 ≡ c = cc in
    (x.1, ap (λ (y : CredParts). Some (y, x.1)) same)

lists_there : (k : CacheState) (p : ℕ) (bytes : List ℕ) (c : CredParts) → IsBytes bytes → credential_at_place k p ≡ Some c → credential_in k.version bytes ≡ Some c → live_bytes (store_of k) p ≡ Some bytes
    → lists_in k.version bytes ≡ Some (flat_map typed_data c.addresses, flat_map typed_data c.authdata)
lists_there k p bytes c fits there read live =
    let x = first_of c (credential_at k.version bytes) read in
    let all = (credential_field k.version).takes bytes (c, x.0) fits x.1 in
    let spelled = live_some k p (Some c) (sym there) in
    let same : bytes ≡ credential k.version c = cc in
    ap (lists_in k.version) same ∙ lists_read k.version c all.1

module _ (k : CacheState) (image bytes : List ℕ) (p : ℕ) (image_fits : IsBytes image) (again : Reopens k image) (fits : IsBytes bytes) (live : live_bytes (store_of k) p ≡ Some bytes) (v : Version) (is : v ≡ k.version) where
  -- the credential there
  abbrev cell : CredParts
  cell = (read_there k image bytes p image_fits again live).cell

  there : credential_at_place k p ≡ Some cell
  there = (read_there k image bytes p image_fits again live).there

  read : lists_in v bytes ≡ Some (flat_map typed_data cell.addresses, flat_map typed_data cell.authdata)
  read = ap (λ (w : Version). lists_in w bytes) is ∙ lists_there k p bytes cell fits there (read_there k image bytes p image_fits again live).read live

  pub lists_read_there : lists_in v bytes ≡ None → ⊥
  lists_read_there none = let some = read in absurd cc

  pub lists_are : (a b : List ℕ) → lists_in v bytes ≡ Some (a, b) → IsSomeAnd (credential_at_place k p) (λ c. (a ≡ flat_map typed_data c.addresses) × (b ≡ flat_map typed_data c.authdata))
  lists_are a b e =
      let same = some_is (a, b) (flat_map typed_data cell.addresses, flat_map typed_data cell.authdata) (sym e ∙ read) in
      rw there (ap (λ (x : List ℕ × List ℕ). x.0) same, ap (λ (x : List ℕ × List ℕ). x.1) same)
