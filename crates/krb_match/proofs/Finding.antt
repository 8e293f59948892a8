-- The first of entries that pass a test.
use Rattle.krb_match.proofs.Cited.{◌≡◌, ◌∙◌, ap, refl, arith, ◌<◌, Bool, List, [], ◌∷◌, ◌||◌, ◌&&◌, Some, option_map, filter, find, is_some, list_any, AllByRecursion, PlacedEntry, Rises, earlier, first_of, le-ltb, lt-ltb, ℕ, ◌+◌, ◌≤◌, false, map, None, position_from, lesser, nat_tests}

-- of those that pass another test
pub find_filter : {X : Type 0} (t q : X → Bool) (xs : List X) → find q (filter t xs) ≡ find (λ x. t x && q x) xs
find_filter t q [] = refl
find_filter t q (x ∷ xs) = grind (arith, find_filter t q xs)

-- ---- of two tests

before_found : (x : PlacedEntry) (t : PlacedEntry → Bool) (xs : List PlacedEntry) → AllByRecursion (λ y. x.0 < y.0) xs → earlier (Some (first_of x)) (option_map first_of (find t xs)) ≡ Some (first_of x)
before_found x t [] h = refl
before_found x t (y ∷ ys) h = grind (arith, before_found x t ys h.1, le-ltb y.0 x.0 (omega (arith, h.0)))

found_before : (x : PlacedEntry) (t : PlacedEntry → Bool) (xs : List PlacedEntry) → AllByRecursion (λ y. x.0 < y.0) xs → earlier (option_map first_of (find t xs)) (Some (first_of x)) ≡ Some (first_of x)
found_before x t [] h = refl
found_before x t (y ∷ ys) h = grind (arith, found_before x t ys h.1, lt-ltb x.0 y.0 h.0)

-- the first that passes one of two tests is the earlier of the first ones of each
pub find_either : (t q : PlacedEntry → Bool) (xs : List PlacedEntry) → Rises xs → earlier (option_map first_of (find t xs)) (option_map first_of (find q xs)) ≡ option_map first_of (find (λ x. t x || q x) xs)
find_either t q [] h = refl
find_either t q (x ∷ xs) h = grind (arith, find_either t q xs h.1, before_found x q xs h.0, found_before x t xs h.0, le-ltb x.0 x.0 (omega arith))

pub find_three : (t q r : PlacedEntry → Bool) (xs : List PlacedEntry) → Rises xs → earlier (option_map first_of (find t xs)) (earlier (option_map first_of (find q xs)) (option_map first_of (find r xs))) ≡ option_map first_of (find (λ x. t x || (q x || r x)) xs)
find_three t q r xs h = ap (earlier (option_map first_of (find t xs))) (find_either q r xs h) ∙ find_either t (λ x. q x || r x) xs h

-- ---- positions

pub none_found : {X : Type 0} (t : X → Bool) (i : ℕ) (xs : List X) → list_any t xs ≡ false → None ≡ position_from t i xs
none_found t i [] none = refl
none_found t i (x ∷ xs) none = grind (arith, none_found t (i + 1) xs)

pub found_mapped : {X Y : Type 0} (f : X → Y) (t : Y → Bool) (i : ℕ) (xs : List X) → position_from (λ x. t (f x)) i xs ≡ position_from t i (map f xs)
found_mapped f t i [] = refl
found_mapped f t i (x ∷ xs) = grind (arith, found_mapped f t (i + 1) xs)

-- what is found later is not lesser
before_later : {X : Type 0} (t : X → Bool) (i k : ℕ) (xs : List X) → i ≤ k → lesser (Some i) (position_from t k xs) ≡ Some i
before_later t i k [] from = refl
before_later t i k (x ∷ xs) from = grind (arith, nat_tests, before_later t i (k + 1) xs)

after_earlier : {X : Type 0} (t : X → Bool) (i k : ℕ) (xs : List X) → i ≤ k → lesser (position_from t k xs) (Some i) ≡ Some i
after_earlier t i k [] from = refl
after_earlier t i k (x ∷ xs) from = grind (arith, nat_tests, after_earlier t i (k + 1) xs)

-- the first that passes either of two tests
pub first_either : {X Y : Type 0} (f g : X → Y) (t u : Y → Bool) (i : ℕ) (xs : List X) → lesser (position_from t i (map f xs)) (position_from u i (map g xs)) ≡ position_from (λ x. t (f x) || u (g x)) i xs
first_either f g t u i [] = refl
first_either f g t u i (x ∷ xs) = search (arith, before_later, after_earlier, first_either f g t u (i + 1) xs)
