-- Whether one of some elements passes a test.
use Rattle.krb_copy.proofs.Cited.{◌≡◌, Bool, List, [], ◌∷◌, refl, arith, filter, ◌||◌, ◌&&◌, list_any, find, is_some}

-- one of those that a filter leaves
pub any_left : {X : Type 0} (t p : X → Bool) (xs : List X) → list_any p (filter t xs) ≡ list_any (λ x. t x && p x) xs
any_left t p [] = refl
any_left t p (x ∷ xs) = grind (arith, any_left t p xs)

-- either test
pub any_either : {X : Type 0} (p q : X → Bool) (xs : List X) → list_any (λ x. p x || q x) xs ≡ (list_any p xs || list_any q xs)
any_either p q [] = refl
any_either p q (x ∷ xs) = grind (arith, any_either p q xs)

-- one is found iff one passes
pub some_found : {X : Type 0} (p : X → Bool) (xs : List X) → is_some (find p xs) ≡ list_any p xs
some_found p [] = refl
some_found p (x ∷ xs) = grind (arith, some_found p xs)
