-- Credentials that are split at a place.
use Rattle.krb_ccache.proofs.Cited.{◌≡◌, ℕ, ◌+◌, ◌-◌, List, [], ◌∷◌, ◌++◌, length, take, drop, map, Option, Some, None, refl, sym, ap, subst, ◌∙◌, arith, flat_map, AllByRecursion, append-nil, take_at, IsBytes, IsBytes-drop, IsBytes-take, no_cc_principal, Contents, contents, IsCell, live_bytes, behind, contents_behind, Version, CredParts, credential, credential_at, CacheState, credentials_format, store_cell, store_of, live_of, placed_from, credential_at_place, ◌==◌, option_map, find, IfSome, IfNone, bytes_here, bytes_from}
use Rattle.krb_ccache.proofs.CellLemmas.{credentials_are, read_none}

-- the empty list begins with no credential
pub no_credential : (v : Version) → credential_at v [] ≡ None
unfolding credential_at
no_credential v = rw no_cc_principal refl

-- the credentials of an image, by their bytes alone, without what follows them
pub bare_at : (v : Version) (image rest : List ℕ) (at end : ℕ) (cs : List CredParts) → IsBytes image → drop at image ≡ flat_map (credential v) cs ++ rest → AllByRecursion (IsCell (credentials_format v)) cs → end ≡ at + length (flat_map (credential v) cs)
    → contents (credentials_format v) (take (end - at) (drop at image)) ≡ record { cells = cs; end = [] }
bare_at v image rest at end cs fits parts sound is_end =
    let f = credentials_format v in
    let text = flat_map (credential v) cs in
    let taken : take (end - at) (drop at image) ≡ text ++ [] = ap (take (end - at)) parts ∙ take_at text rest (end - at) (omega (arith, is_end)) ∙ sym (append-nil text) in
    let taken_fits : IsBytes (text ++ []) = subst IsBytes taken (IsBytes-take (end - at) (drop at image) (IsBytes-drop at image fits)) in
    let none : contents f [] ≡ record { cells = []; end = [] } = read_none v [] (λ i. omega arith) (no_credential v) in
    ap (contents f) taken ∙ contents_behind f cs [] (credentials_are v) sound taken_fits
    ∙ ap (λ (k : Contents CredParts (List ℕ)). behind cs k) none ∙ ap (λ (xs : List CredParts). record { cells = xs; end = [] }) (append-nil cs)

-- ---- the live credential at a place

-- its bytes are the live bytes of the store at that place
pub live_is : (v : Version) (at p : ℕ) (cs : List CredParts) → bytes_from at (map (store_cell v) cs) p ≡ option_map (credential v) (live_of (find (λ x. x.0 == p) (placed_from v at cs)))
live_is v at p [] = refl
live_is v at p (c ∷ cs) = search (arith, bytes_from, bytes_here, live_is v (at + length (credential v c)) p cs)

pub live_none : (k : CacheState) (p : ℕ) (o : Option CredParts) → o ≡ credential_at_place k p → IfNone o (live_bytes (store_of k) p ≡ None)
live_none k p o e = search (arith, live_is)

pub live_some : (k : CacheState) (p : ℕ) (o : Option CredParts) → o ≡ credential_at_place k p → IfSome o (λ c. live_bytes (store_of k) p ≡ Some (credential k.version c))
live_some k p o e = search (arith, live_is)
