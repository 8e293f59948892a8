-- Things that come in order are numbered one after the other.
use Rattle.krb_names.proofs.Cited.{◌≡◌, ◌∙◌, arith, ap, refl, ℕ, ◌+◌, ◌<◌, Bool, true, cond, List, [], ◌∷◌, ◌++◌, length, get_or, Option, Some, is_some, list_any, HashedName, name_cmp, is_eq, eq-eqb, eqb-true, ◌==◌}
use Rattle.std.specs.BTreeMap.{BTreeMap}
use Rattle.std.specs.Cmp.{IsEquivalence}
use Rattle.std.specs.List.{position_from}
use Rattle.std.specs.Option.{option_or}
use Rattle.std.proofs.lemmas.Iterator.Adapters.{position_from-zero}
use Rattle.std.proofs.lemmas.List.Quantifiers.{position-Some}
use Rattle.krb_names.specs.Numbers.{AreNumbers, GetsNumber}

-- ---- positions

position-append : {K : Type 0} (t : K → Bool) (n m : ℕ) (xs ys : List K) → length xs + n ≡ m → position_from t n (xs ++ ys) ≡ option_or (position_from t n xs) (position_from t m ys)
position-append t n m [] ys e = let same : n ≡ m = omega (arith, e) in ap (λ k. position_from t k ys) same
position-append t n m (x ∷ xs) ys e = let ih = position-append t (n + 1) m xs ys (omega (arith, e)) in grind (arith, ih)

pub position_any : {K : Type 0} (t : K → Bool) (n : ℕ) (xs : List K) → list_any t xs ≡ is_some (position_from t n xs)
position_any t n [] = refl
position_any t n (x ∷ xs) = grind (arith, position_any t (n + 1) xs)

-- the element at a position passes
pub position_at : {K : Type 0} (t : K → Bool) (xs : List K) (i : ℕ) (d : K) → position_from t 0 xs ≡ Some i → (i < length xs) × (t (get_or xs i d) ≡ true)
position_at t xs i d e = let p = position-Some t xs i d (position_from-zero t xs ∙ e) in (p.0, p.1)

-- ---- numbers

module _ {X V : Type 0} (value : X → V) (alike : V → V → Bool) (equivalence : IsEquivalence alike) where
  abbrev number_of : V → List X → ℕ → Option ℕ
  number_of v xs n = position_from (λ x. alike v (value x)) n xs

  -- values that are alike have the same number
  pub number_alike : (v w : V) (n : ℕ) (all : List X) → alike v w ≡ true → number_of v all n ≡ number_of w all n
  number_alike v w n all is = ap (λ (t : V → Bool). position_from (λ x. t (value x)) n all) (λ i z. equivalence.congr v w z is i)

  -- two numbers are equal iff the values are alike
  pub number_test : (v w : V) (all : List X) (i j : ℕ) → number_of v all 0 ≡ Some i → number_of w all 0 ≡ Some j → (i == j) ≡ alike v w
  number_test v w [] i j e g = absurd cc
  number_test v w (x ∷ xs) i j e g =
      grind (arith, e, g, eqb-true i j, eq-eqb i j, number_alike v w 0 (x ∷ xs), position_at (λ y. alike v (value y)) (x ∷ xs) i x e, position_at (λ y. alike w (value y)) (x ∷ xs) j x g, equivalence.congr v (value (get_or (x ∷ xs) i x)) w, equivalence.symm w (value (get_or (x ∷ xs) i x)))

  -- with one thing more, after which there may be others
  number_with : (v : V) (came rest : List X) (y : X) (next : ℕ) → next ≡ length came → number_of v (came ++ y ∷ rest) 0 ≡ option_or (number_of v came 0) (cond (alike v (value y)) (Some next) (number_of v rest (next + 1)))
  number_with v came rest y next is = position-append (λ x. alike v (value x)) 0 next came (y ∷ rest) (omega (arith, is))

  module _ (IsKey : V → HashedName → Type 0) (tie : (v w : V) (k l : HashedName) → IsKey v k → IsKey w l → is_eq (name_cmp k l) ≡ alike v w)
      (came : List X) (x : X) (k : HashedName) (next number : ℕ) (old new : BTreeMap HashedName ℕ) (are : AreNumbers value alike IsKey came old) (is_key : IsKey (value x) k) (is_next : next ≡ length came) (gets : GetsNumber old new k next number) where
    -- the number that the next thing got is that among all
    pub number_is : (rest : List X) → number_of (value x) (came ++ x ∷ rest) 0 ≡ Some number
    number_is rest = grind (arith, gets.is, are (value x) k is_key, equivalence.refl (value x), number_with (value x) came rest x next is_next)

    -- the map after it
    pub numbers_next : AreNumbers value alike IsKey (came ++ x ∷ []) new
    numbers_next w q of_w =
        grind (arith, gets.updates.0 q, tie (value x) w k q is_key of_w, are (value x) k is_key, are w q of_w, number_alike (value x) w 0 came, gets.is, equivalence.symm (value x) w, number_with w came [] x next is_next)
