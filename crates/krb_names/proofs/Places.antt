-- Where a name is in a list of names that is in order.
use Rattle.krb_names.proofs.Cited.{◌≡◌, ◌∙◌, sym, ap, subst, refl, arith, ℕ, ◌+◌, ◌<◌, ◌⊎◌, inl, inr, Bool, true, false, cond, List, [], ◌∷◌, length, map, get_or, Result, Ok, Err, All, list_any, ◌||◌, ◌&&◌, ◌==◌, bytes_eq, HashedName, hash_of, name_cmp, AreHashed, is_among, is_place, and_parts, cases_lt, cases_order, eq-eqb, ne_eqb, alike_right, nat_list_eq_equiv, get_or-map, get_or_default, length-map, list_any_at, list_any_none, Contains-from_dedup, list_any-IsPermutation, searchable_from_sorted, bytes_eq-Decides, dedup, dedup_from, is_some, is_eq, is_lt, ordering_reverse}
use Rattle.std.proofs.lemmas.Map.Keys.{Less-from_sorted}
use Rattle.std.specs.List.Sorted.{IsBinarySearchResult, IsPermutation, IsSearchInRange, IsSortedBy, IsStrictlySortedBy}
use Rattle.std.specs.Result.{result_ok}
use Rattle.std.specs.declared.cmp.Ordering.TheVariants.{Equal}
use Rattle.krb_names.proofs.NameOrder.{hashes_tie, names_total}

-- ---- what a search found

ordered : (ks : List HashedName) → IsStrictlySortedBy name_cmp ks → IsSortedBy (λ a b. is_lt (name_cmp a b)) ks
ordered ks strict k d low lt = ap is_lt (names_total.antisymm (get_or ks (k + 1) d) (get_or ks k d) ∙ ap ordering_reverse (Less-from_sorted name_cmp ks k (k + 1) d strict (omega arith) lt))

-- only what is at the place found compares equal
at_found : (ks : List HashedName) (x : HashedName) (i n : ℕ) (d : HashedName) → IsStrictlySortedBy name_cmp ks → i < length ks → n < length ks → name_cmp (get_or ks i d) x ≡ Equal → (n ≡ i) ⊎ ((n < i) ⊎ (i < n)) → is_eq (name_cmp (get_or ks n d) x) ≡ (i == n)
at_found ks x i n d strict bound lt equal (inl same) = ap (λ (m : ℕ). is_eq (name_cmp (get_or ks m d) x)) same ∙ ap is_eq equal ∙ sym (eq-eqb i n (sym same))
at_found ks x i n d strict bound lt equal (inr (inl below)) =
    ap is_eq (sym (alike_right names_total (get_or ks i d) x (get_or ks n d) equal) ∙ Less-from_sorted name_cmp ks n i d strict below bound) ∙ sym (ne_eqb i n (λ e. omega (arith, e, below)))
at_found ks x i n d strict bound lt equal (inr (inr above)) =
    ap is_eq (names_total.antisymm (get_or ks n d) x ∙ ap ordering_reverse (sym (names_total.congr (get_or ks i d) x (get_or ks n d) equal) ∙ Less-from_sorted name_cmp ks i n d strict above lt)) ∙ sym (ne_eqb i n (λ e. omega (arith, e, above)))

at_place : (ks : List HashedName) (x : HashedName) (r : Result ℕ ℕ) → IsStrictlySortedBy name_cmp ks → IsSearchInRange r (length ks) → IsBinarySearchResult (λ y. name_cmp y x) ks r → (n : ℕ) (d : HashedName) → n < length ks → is_eq (name_cmp (get_or ks n d) x) ≡ is_place (result_ok r) n
at_place ks x (Ok i) strict bound equal n d lt = at_found ks x i n d strict bound lt (equal d) (cases_order n i)
at_place ks x (Err i) strict bound parts n d lt =
    let rises = parts (searchable_from_sorted names_total (λ (k : HashedName). k) ks x (ordered ks strict)) in
    elim (cases_lt n i) [
      | inl below ↦ ap is_eq (rises.0 n d (omega arith) below)
      | inr above ↦ ap is_eq (rises.1 n d above lt)
    ]

-- ---- by the bytes alone

module _ (ks : List HashedName) (x : HashedName) (r : Result ℕ ℕ) (are : AreHashed ks) (hash : x.0 ≡ hash_of x.1.now) (bound : IsSearchInRange r (length ks)) (is : IsBinarySearchResult (λ y. name_cmp y x) ks r) where
  abbrev names : List (List ℕ)
  names = map (λ y. y.1.now) ks

  pub alone : (n : ℕ) → n < length names → bytes_eq x.1.now (get_or names n []) ≡ is_place (result_ok r) n
  alone n below =
      let lt : n < length ks = omega (arith, below, length-map ks (λ y. y.1.now)) in
      ap (bytes_eq x.1.now) (get_or-map (λ (y : HashedName). y.1.now) ks n x [] lt)
      ∙ nat_list_eq_equiv.symm x.1.now (get_or ks n x).1.now
      ∙ sym (hashes_tie (get_or ks n x) x (are.1 n x lt) hash)
      ∙ at_place ks x r are.0 bound is n x lt

found_by : (name : List ℕ) (names : List (List ℕ)) (r : Result ℕ ℕ) → IsSearchInRange r (length names) → ((n : ℕ) → n < length names → bytes_eq name (get_or names n []) ≡ is_place (result_ok r) n) → is_some (result_ok r) ≡ is_among names name
found_by name names (Ok i) bound only = sym (list_any_at (bytes_eq name) names i [] bound (only i bound ∙ eq-eqb i i refl))
found_by name names (Err i) bound only = sym (list_any_none (bytes_eq name) names (λ n d lt. ap (bytes_eq name) (get_or_default names n d [] lt) ∙ only n lt))

pub found : (ks : List HashedName) (x : HashedName) (r : Result ℕ ℕ) → AreHashed ks → x.0 ≡ hash_of x.1.now → IsSearchInRange r (length ks) → IsBinarySearchResult (λ y. name_cmp y x) ks r → is_some (result_ok r) ≡ is_among (map (λ y. y.1.now) ks) x.1.now
found ks x r are hash bound is =
    found_by x.1.now (map (λ y. y.1.now) ks) r (subst (IsSearchInRange r) (sym (length-map ks (λ (y : HashedName). y.1.now))) bound) (alone ks x r are hash bound is)

-- ---- what `dedup` keeps

-- two names are the same, as are their numbers
abbrev same_name : HashedName → HashedName → Bool
same_name x y = x.0 == y.0 && bytes_eq x.1.now y.1.now

-- one of them has these bytes
abbrev any_named : List ℕ → List HashedName → Bool
any_named name ks = list_any (λ x. bytes_eq name x.1.now) ks

alike : (name : List ℕ) (x y : HashedName) → same_name x y ≡ true → bytes_eq name x.1.now ≡ bytes_eq name y.1.now
alike name x y same = ap (bytes_eq name) ((bytes_eq-Decides x.1.now y.1.now).0 (and_parts (x.0 == y.0) (bytes_eq x.1.now y.1.now) same).1)

any_by : (name : List ℕ) (k x : HashedName) (xs : List HashedName) (b : Bool) → same_name x k ≡ b → any_named name (dedup_from same_name k xs) ≡ (bytes_eq name k.1.now || any_named name xs) → any_named name (dedup_from same_name x xs) ≡ (bytes_eq name x.1.now || any_named name xs)
    → any_named name (cond b (dedup_from same_name k xs) (k ∷ dedup_from same_name x xs)) ≡ (bytes_eq name k.1.now || (bytes_eq name x.1.now || any_named name xs))
any_by name k x xs true e at_k at_x = grind (arith, at_k, alike name x k e)
any_by name k x xs false e at_k at_x = grind (arith, at_x)

any_from : (name : List ℕ) (k : HashedName) (xs : List HashedName) → any_named name (dedup_from same_name k xs) ≡ (bytes_eq name k.1.now || any_named name xs)
any_from name k [] = refl
any_from name k (x ∷ xs) = any_by name k x xs (same_name x k) refl (any_from name k xs) (any_from name x xs)

any_dedup : (name : List ℕ) (xs : List HashedName) → any_named name (dedup same_name xs) ≡ any_named name xs
any_dedup name [] = refl
any_dedup name (x ∷ xs) = any_from name x xs

any_names : (name : List ℕ) (ks : List HashedName) → is_among (map (λ x. x.1.now) ks) name ≡ any_named name ks
any_names name [] = refl
any_names name (k ∷ ks) = ap (λ (b : Bool). bytes_eq name k.1.now || b) (any_names name ks)

-- in order and each once, they are the same names
pub same_names : (name : List ℕ) (ks sorted : List HashedName) → IsPermutation ks sorted → is_among (map (λ x. x.1.now) ks) name ≡ is_among (map (λ x. x.1.now) (dedup same_name sorted)) name
same_names name ks sorted moved =
    any_names name ks ∙ list_any-IsPermutation (λ x. bytes_eq name x.1.now) ks sorted moved ∙ sym (any_dedup name sorted) ∙ sym (any_names name (dedup same_name sorted))

pub all_dedup : (P : HashedName → Type 0) (xs : List HashedName) → All P xs → All P (dedup same_name xs)
all_dedup P xs all k d lt =
    let y = get_or (dedup same_name xs) k d in
    let there = Contains-from_dedup same_name xs y (k, lt, get_or_default (dedup same_name xs) k y d lt) in
    subst P there.2 (all there.0 y there.1)
