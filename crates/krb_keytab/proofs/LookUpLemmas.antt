-- Considering one entry after the other finds the result of the look-up.
use Rattle.krb_keytab.proofs.Cited.{◌≡◌, ℕ, Bool, true, false, cond, ltb, List, [], ◌∷◌, ◌++◌, Option, Some, None, Ok, refl, sym, ap, subst, ◌∙◌, arith, inl, inr, ◌&&◌, ◌||◌, ◌==◌, max, filter, find, append-nil, eqb_tells, Parts, have_same_name, answer, IsFoundAmong, PlacedEntry, is_match, greatest, selected_version, first_or_missing, look_up_in, nat_tests, filter-append, and_right}

-- ---- one entry after the other

-- an entry of this version is selected over the one found so far
abbrev pub is_better : ℕ → Option PlacedEntry → ℕ → Bool
is_better kvno None version = kvno == 0 || version == kvno
is_better kvno (Some x) version = kvno == 0 && ltb x.1.version version

-- the entry selected, after some entries that match
abbrev best_after : ℕ → Option PlacedEntry → List PlacedEntry → Option PlacedEntry
best_after v best [] = best
best_after v best (x ∷ xs) = best_after v (cond (is_better v best x.1.version) (Some x) best) xs

-- and after one more
best-append : (v : ℕ) (best : Option PlacedEntry) (xs : List PlacedEntry) (x : PlacedEntry) → best_after v best (xs ++ x ∷ []) ≡ cond (is_better v (best_after v best xs) x.1.version) (Some x) (best_after v best xs)
best-append v best [] x = refl
best-append v best (y ∷ ys) x = best-append v (cond (is_better v best y.1.version) (Some y) best) ys x

-- whether there is some entry
abbrev some_of : List PlacedEntry → Bool
some_of [] = false
some_of (x ∷ xs) = true

some-append : (xs : List PlacedEntry) (x : PlacedEntry) → some_of (xs ++ x ∷ []) ≡ true
some-append [] x = refl
some-append (y ∷ ys) x = refl

-- ---- the first with a version

-- with a version, what is found stays
stays : (v : ℕ) (x : PlacedEntry) (xs : List PlacedEntry) → (v == 0) ≡ false → best_after v (Some x) xs ≡ Some x
stays v x [] e = refl
stays v x (y ∷ ys) e = rw e (stays v x ys e)

first_by : (v : ℕ) (x : PlacedEntry) (xs : List PlacedEntry) (b : Bool) → (v == 0) ≡ false → (x.1.version == v) ≡ b → best_after v None xs ≡ find (λ y. y.1.version == v) xs → best_after v None (x ∷ xs) ≡ find (λ y. y.1.version == v) (x ∷ xs)
first_by v x xs b e is ih = search (arith, stays)

first_with : (v : ℕ) (xs : List PlacedEntry) → (v == 0) ≡ false → best_after v None xs ≡ find (λ y. y.1.version == v) xs
first_with v [] e = refl
first_with v (x ∷ xs) e = first_by v x xs (x.1.version == v) e refl (first_with v xs e)

-- ---- the first with the greatest version

-- the first of some entries with a version
abbrev with_version : ℕ → List PlacedEntry → Option PlacedEntry
with_version m xs = find (λ y. y.1.version == m) xs

-- one with no greater version changes nothing
first_greatest : (b : PlacedEntry) (xs : List PlacedEntry) → best_after 0 (Some b) xs ≡ with_version (max b.1.version (greatest xs)) (b ∷ xs)
first_greatest b [] = grind (arith, nat_tests)
first_greatest b (y ∷ ys) = grind (arith, nat_tests, first_greatest y ys, first_greatest b ys)

-- ---- look-up

-- the best of the entries that match is the one selected
best_found : (v : ℕ) (x : PlacedEntry) (xs : List PlacedEntry) → best_after v None (x ∷ xs) ≡ with_version (selected_version v (x ∷ xs)) (x ∷ xs)
best_found v x xs = elim (eqb_tells v 0) [
  | inl zero_ ↦
      let is = zero_.0 in
      let here : v ≡ 0 = zero_.1 in
      subst (λ (n : ℕ). best_after n None (x ∷ xs) ≡ with_version (selected_version n (x ∷ xs)) (x ∷ xs)) (sym here) (first_greatest x xs)
  | inr some ↦
      let selected : selected_version v (x ∷ xs) ≡ v = ap (λ (b : Bool). cond b (greatest (x ∷ xs)) v) some.0 in
      first_with v (x ∷ xs) some.0 ∙ ap (λ (n : ℕ). with_version n (x ∷ xs)) (sym selected)
]

answer_found : (o : Option PlacedEntry) → answer true o ≡ first_or_missing o
answer_found o = search arith

-- what is found after all entries is the result of the look-up
looked_up : (v : ℕ) (xs : List PlacedEntry) → answer (some_of xs) (best_after v None xs) ≡ look_up_in v xs
looked_up v xs = search (arith, best_found, answer_found)

-- one result has one entry
same_best : (n m : Bool) (a b : Option PlacedEntry) → answer n a ≡ answer m b → a ≡ b
same_best n m a b e = search arith

answer_cond : (better : Bool) (x : PlacedEntry) (best : Option PlacedEntry) → answer true (cond better (Some x) best) ≡ cond better (Ok x) (answer true best)
answer_cond better x best = search arith

-- the next entry, whether it is the better one or not
pub next_found : (v : ℕ) (named : Bool) (best : Option PlacedEntry) (xs : List PlacedEntry) (x : PlacedEntry) (version : ℕ) (better : Bool) → x.1.version ≡ version → better ≡ is_better v best version → answer named best ≡ look_up_in v xs
    → look_up_in v (xs ++ x ∷ []) ≡ cond better (Ok x) (answer true best)
next_found v named best xs x version better is_version is so_far =
    let same : best_after v None xs ≡ best = same_best (some_of xs) named (best_after v None xs) best (looked_up v xs ∙ sym so_far) in
    sym (looked_up v (xs ++ x ∷ []))
    ∙ ap (λ (b : Bool). answer b (best_after v None (xs ++ x ∷ []))) (some-append xs x)
    ∙ ap (answer true) (best-append v None xs x)
    ∙ ap (λ (o : Option PlacedEntry). answer true (cond (is_better v o x.1.version) (Some x) o)) same
    ∙ ap (λ (n : ℕ). answer true (cond (is_better v best n) (Some x) best)) is_version
    ∙ ap (λ (b : Bool). answer true (cond b (Some x) best)) (sym is)
    ∙ answer_cond better x best

filter-match : (n : Parts) (t : ℕ) (xs : List PlacedEntry) (x : PlacedEntry) (b : Bool) → is_match n t x ≡ b → filter (is_match n t) (xs ++ x ∷ []) ≡ filter (is_match n t) xs ++ cond b (x ∷ []) []
filter-match n t xs x b e = filter-append (is_match n t) xs (x ∷ []) ∙ ap (λ (c : Bool). filter (is_match n t) xs ++ cond c (x ∷ []) []) e

-- an entry that does not match changes nothing
pub no_match : (n : Parts) (v t : ℕ) (xs : List PlacedEntry) (x : PlacedEntry) (named : Bool) (best : Option PlacedEntry) → is_match n t x ≡ false → IsFoundAmong n v t xs named best → IsFoundAmong n v t (xs ++ x ∷ []) named best
no_match n v t xs x named best other so_far =
    so_far ∙ ap (look_up_in v) (sym (filter-match n t xs x false other ∙ append-nil (filter (is_match n t) xs)))

-- nor does one of another name
pub other_name : (n : Parts) (v t : ℕ) (xs : List PlacedEntry) (x : PlacedEntry) (named : Bool) (best : Option PlacedEntry) → false ≡ have_same_name n x.1.principal → IsFoundAmong n v t xs named best → IsFoundAmong n v t (xs ++ x ∷ []) named best
other_name n v t xs x named best other so_far = no_match n v t xs x named best (and_right _ _ (sym other)) so_far

-- one that matches is selected, or not
pub one_match : (n : Parts) (v t : ℕ) (xs : List PlacedEntry) (x : PlacedEntry) (better : Bool) (best : Option PlacedEntry) → is_match n t x ≡ true → look_up_in v (filter (is_match n t) xs ++ x ∷ []) ≡ cond better (Ok x) (answer true best)
    → IsFoundAmong n v t (xs ++ x ∷ []) true (cond better (Some x) best)
one_match n v t xs x better best is next = answer_cond better x best ∙ sym next ∙ ap (look_up_in v) (sym (filter-match n t xs x true is))

and_true : (b : Bool) → (b && true) ≡ b
and_true b = search arith

-- one with the name matches iff it has the enctype
pub match_by_enctype : (n : Parts) (t : ℕ) (x : PlacedEntry) (has : Bool) → have_same_name n x.1.principal ≡ true → has ≡ (t == 0 || x.1.enctype == t) → is_match n t x ≡ has
match_by_enctype n t x has e is = ap (λ (b : Bool). (t == 0 || x.1.enctype == t) && b) e ∙ and_true (t == 0 || x.1.enctype == t) ∙ sym is
