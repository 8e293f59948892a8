-- After a value is set, exactly one live entry matches.
use Rattle.krb_ccache.proofs.Cited.{◌≡◌, ℕ, ◌+◌, ◌≤◌, Bool, true, false, List, [], ◌∷◌, ◌++◌, length, map, Option, Some, Result, Ok, refl, sym, ap, subst, ◌∙◌, arith, nat_tests, Parts, Code, end_from, end_of, Version, V4, CredParts, credential, is_marked, CacheState, PlacedCredential, store_of, store_cell, first_place, placed_from, is_live, live_of, credential_at_place, QueryParts, is_match, query_of, add_mark_at, with_mark, cut_result, put_result, with_last, without, config_entry, matches_of, HoldsConfig, filter, find, ◌==◌, cut_store, ok_is}
use Rattle.std.specs.Str.{bytes_eq}
use Rattle.std.proofs.lemmas.List.Elements.{filter-append}
use Rattle.std.proofs.lemmas.Slice.Eq.{bytes_eq-Decides}
use Rattle.krb_wire.specs.Names.{have_same_name}
use Rattle.krb_wire.proofs.NamesCompared.{same_name_is}
use Rattle.krb_ccache.proofs.CredentialField.{credential_field}
use Rattle.krb_ccache.proofs.MarkLemmas.{marked_len, unmarked_by, unmarked_after}
use Rattle.krb_ccache.proofs.Splits.{live_is}

same_bytes : (b : List ℕ) → bytes_eq b b ≡ true
same_bytes b = (bytes_eq-Decides b b).1 refl

name_same : (p : Parts) → have_same_name p p ≡ true
name_same p = sym (same_name_is p p true (λ e. (refl, refl)) (λ realm components. refl))

-- the live credentials that match, with their places
abbrev matches_from : Version → QueryParts → ℕ → List CredParts → List PlacedCredential
matches_from v q at cs = filter (λ x. is_match q x.1) (filter is_live (placed_from v at cs))

-- the matches in a cache
abbrev matches_in : QueryParts → CacheState → List PlacedCredential
matches_in q k = matches_from k.version q (first_place k) k.contents.cells

-- ---- the first of them

-- the first match is at its place, and a mark on it leaves the matches after it
record IsFirst (v : Version) (q : QueryParts) (at : ℕ) (cs : List CredParts) (p : ℕ) (c : CredParts) (rest : List PlacedCredential) : Type 0 where
  pub from : at ≤ p
  pub there : live_of (find (λ x. x.0 == p) (placed_from v at cs)) ≡ Some c
  pub left : matches_from v q at (add_mark_at v at p cs) ≡ rest

-- the first match is the first credential
first_here : (v : Version) (q : QueryParts) (at p : ℕ) (c : CredParts) (cs : List CredParts) (rest : List PlacedCredential) → at ≡ p → is_marked c ≡ false → matches_from v q (at + length (credential v c)) cs ≡ rest → IsFirst v q at (c ∷ cs) p c rest
first_here v q at p c cs rest is live others =
    let here : (at == p) ≡ true = grind (arith, nat_tests) in
    record {
      from = omega (arith, is);
      there = rw (here, live) refl;
      left = rw (here, unmarked_after v (at + length (credential v c)) p cs (omega (arith, is, (credential_field v).nonempty c)), marked_len v c) others;
    }

-- the first match comes after the first credential
first_after : (v : Version) (q : QueryParts) (at p : ℕ) (c d : CredParts) (cs : List CredParts) (rest : List PlacedCredential) → ((xs : List CredParts) → matches_from v q at (d ∷ xs) ≡ matches_from v q (at + length (credential v d)) xs)
    → IsFirst v q (at + length (credential v d)) cs p c rest → IsFirst v q at (d ∷ cs) p c rest
first_after v q at p c d cs rest skips first =
    let apart : (at == p) ≡ false = grind (arith, nat_tests, (credential_field v).nonempty d, first.from) in
    record { from = omega (arith, first.from); there = rw apart first.there; left = ap (matches_from v q at) (unmarked_by v at p d cs apart) ∙ skips (add_mark_at v (at + length (credential v d)) p cs) ∙ first.left }

first_by : (v : Version) (q : QueryParts) (at p : ℕ) (c d : CredParts) (cs : List CredParts) (rest : List PlacedCredential) (marked matched : Bool) → is_marked d ≡ marked → is_match q d ≡ matched
    → (matches_from v q (at + length (credential v d)) cs ≡ (p, c) ∷ rest → IsFirst v q (at + length (credential v d)) cs p c rest) → matches_from v q at (d ∷ cs) ≡ (p, c) ∷ rest → IsFirst v q at (d ∷ cs) p c rest
first_by v q at p c d cs rest false true m e ih is =
    let both : (at, d) ∷ matches_from v q (at + length (credential v d)) cs ≡ (p, c) ∷ rest = sym (search arith) ∙ is in
    let first : ◌≡◌ {A = PlacedCredential} (at, d) (p, c) = cc in
    let others : matches_from v q (at + length (credential v d)) cs ≡ rest = cc in
    subst (λ (x : CredParts). IsFirst v q at (d ∷ cs) p x rest) (ap (λ (x : PlacedCredential). x.1) first) (first_here v q at p d cs rest (ap (λ (x : PlacedCredential). x.0) first) m others)
first_by v q at p c d cs rest true matched m e ih is =
    first_after v q at p c d cs rest (λ xs. search arith) (ih (sym (search arith) ∙ is))
first_by v q at p c d cs rest false false m e ih is =
    first_after v q at p c d cs rest (λ xs. search arith) (ih (sym (search arith) ∙ is))

first_is : (v : Version) (q : QueryParts) (at p : ℕ) (c : CredParts) (cs : List CredParts) (rest : List PlacedCredential) → matches_from v q at cs ≡ (p, c) ∷ rest → IsFirst v q at cs p c rest
first_is v q at p c [] rest is = absurd cc
first_is v q at p c (d ∷ cs) rest is = first_by v q at p c d cs rest (is_marked d) (is_match q d) refl refl (first_is v q (at + length (credential v d)) p c cs rest) is

-- ---- removals of the first ones

cut_there : (k : CacheState) (p : ℕ) (c : CredParts) → k.version ≡ V4 → k.contents.end ≡ [] → credential_at_place k p ≡ Some c → cut_result k p ≡ Ok (with_mark k p)
cut_there k p c version whole there = search (arith, live_is)

-- the matches after them are left
cut_matches : (q : QueryParts) (k : CacheState) (xs ys : List PlacedCredential) → k.version ≡ V4 → k.contents.end ≡ [] → matches_in q k ≡ xs ++ ys
    → (matches_in q (without k (map (λ x. x.0) xs)) ≡ ys) × ((without k (map (λ x. x.0) xs)).principal ≡ k.principal)
cut_matches q k [] ys version whole is = (is, refl)
cut_matches q k (x ∷ xs) ys version whole is =
    let f = first_is k.version q (first_place k) x.0 x.1 k.contents.cells (xs ++ ys) is in
    let places = map (λ (y : PlacedCredential). y.0) xs in
    let cut = cut_there k x.0 x.1 version whole f.there in
    let rest = cut_matches q (with_mark k x.0) xs ys version whole f.left in
    (ap (λ (r : Result CacheState Code). matches_in q (without (cut_store k r) places)) cut ∙ rest.0, ap (λ (r : Result CacheState Code). (without (cut_store k r) places).principal) cut ∙ rest.1)

-- ---- the new entry

placed_last : (v : Version) (at : ℕ) (cs : List CredParts) (c : CredParts) → placed_from v at (cs ++ c ∷ []) ≡ placed_from v at cs ++ (end_from at (map (store_cell v) cs), c) ∷ []
placed_last v at [] c = refl
placed_last v at (d ∷ cs) c = search (arith, placed_last v (at + length (credential v d)) cs c)

-- the new entry is the last match
match_last : (q : QueryParts) (k : CacheState) (c : CredParts) → is_marked c ≡ false → is_match q c ≡ true → matches_in q (with_last k c) ≡ matches_in q k ++ (end_of (store_of k), c) ∷ []
match_last q k c live matches = search (arith, placed_last, filter-append)

-- the only match is the first
only_first : (p : PlacedCredential → Bool) (xs : List PlacedCredential) (y : PlacedCredential) → filter p xs ≡ y ∷ [] → find p xs ≡ Some y
only_first p [] y is = absurd cc
only_first p (x ∷ xs) y is = search (arith, only_first p xs y)

-- ---- after a value was set

-- the value is held by the entry at that place
pub record IsSet (k new : CacheState) (key : List ℕ) (text : Option (List ℕ)) (value : List ℕ) (place : ℕ) : Type 0 where
  pub holds : HoldsConfig new key text value place
  pub there : credential_at_place new place ≡ Some (config_entry k.principal key text value)

pub is_set : (k mid : CacheState) (key : List ℕ) (text : Option (List ℕ)) (value : List ℕ) (p : ℕ) → k.version ≡ V4 → k.contents.end ≡ [] → put_result k (config_entry k.principal key text value) ≡ Ok (end_of (store_of k), with_last k (config_entry k.principal key text value))
    → put_result k (config_entry k.principal key text value) ≡ Ok (p, mid) → IsSet k (without mid (map (λ x. x.0) (matches_of k key text))) key text value p
is_set k mid key text value p version whole fits put =
    let q = query_of k key text in
    let x = config_entry k.principal key text value in
    let xs = matches_of k key text in
    let all = cut_matches q (with_last k x) xs ((end_of (store_of k), x) ∷ []) version whole (match_last q k x refl (search (arith, same_bytes, name_same))) in
    subst (λ (y : ℕ × CacheState). IsSet k (without y.1 (map (λ z. z.0) xs)) key text value y.0) (ok_is _ _ (sym fits ∙ put)) (search (arith, only_first, first_is))
