-- Look-ups in a list of files, and changes to it.
use Rattle.krb_files.proofs.Cited.{◌≡◌, ◌≢◌, ℕ, zero, suc, ◌<◌, ◌≤◌, Bool, not, List, [], ◌∷◌, ◌++◌, length, Some, None, map, refl, arith, find, position, option_map, slice_set, slice_index_or, bytes_eq, SetsFile, prefix_len, bytes_eq-Decides, file_in, with_file}

-- `find` in a mapped list is the image of `find` in the list
pub find-map : {X Y : Type 0} (v : X → Y) (test : Y → Bool) (xs : List X) → find test (map v xs) ≡ option_map v (find (λ x. test (v x)) xs)
find-map v test [] = refl
find-map v test (x ∷ xs) = let rest = find-map v test xs in grind arith

module _ {X : Type 0} (v : X → List ℕ × List ℕ) (name : List ℕ) where
  -- the element has another name
  abbrev misses : X → Bool
  misses = λ x. not (bytes_eq (v x).0 name)

  -- setting the first file of the name is `with_file`
  with_file-set : (xs : List X) (n : ℕ) (d y : X) → prefix_len misses xs ≡ n → n < length xs → (v y).0 ≡ (v (slice_index_or xs n d)).0 → map v (slice_set xs n y) ≡ with_file (map v xs) name (v y).1
  with_file-set [] n d y e lt same = absurd (omega arith)
  with_file-set (x ∷ xs) zero d y e lt same = grind arith
  with_file-set (x ∷ xs) (suc n) d y e lt same = let rest = with_file-set xs n d y in grind arith

  -- if no file has the name, `with_file` appends one
  with_file-push : (xs : List X) (bytes : List ℕ) → length xs ≤ prefix_len misses xs → with_file (map v xs) name bytes ≡ map v xs ++ (name, bytes) ∷ []
  with_file-push [] bytes le = refl
  with_file-push (x ∷ xs) bytes le = let rest = with_file-push xs bytes in grind arith

  -- both, by the position of the first file of the name
  pub with_file-at : (xs : List X) (n : ℕ) (d y : X) → Some n ≡ position (λ x. bytes_eq (v x).0 name) xs → (v y).0 ≡ (v (slice_index_or xs n d)).0 → map v (slice_set xs n y) ≡ with_file (map v xs) name (v y).1
  with_file-at xs n d y found same = with_file-set xs n d y (grind arith) (grind arith) same

  pub with_file-none : (xs : List X) (bytes : List ℕ) → None ≡ position (λ x. bytes_eq (v x).0 name) xs → with_file (map v xs) name bytes ≡ map v xs ++ (name, bytes) ∷ []
  with_file-none xs bytes none = with_file-push xs bytes (grind arith)

-- the file that is set has these bytes
this-with_file : (files : List (List ℕ × List ℕ)) (name bytes : List ℕ) → file_in (with_file files name bytes) name ≡ Some bytes
this-with_file [] name bytes = let same = bytes_eq-Decides name name in grind arith
this-with_file (file ∷ files) name bytes = let rest = this-with_file files name bytes in grind arith

-- every other file has the bytes it had
others-with_file : (files : List (List ℕ × List ℕ)) (name bytes other : List ℕ) → other ≢ name → file_in (with_file files name bytes) other ≡ file_in files other
others-with_file [] name bytes other differ = let there = bytes_eq-Decides name other in grind arith
others-with_file (file ∷ files) name bytes other differ =
    let rest = others-with_file files name bytes other differ in
    let here = bytes_eq-Decides file.0 name in
    let there = bytes_eq-Decides file.0 other in
    grind arith

-- `with_file` sets the file, and no other
pub sets_file : (files : List (List ℕ × List ℕ)) (name bytes : List ℕ) → SetsFile (file_in files) name bytes (file_in (with_file files name bytes))
sets_file files name bytes = record { this = this-with_file files name bytes; others = others-with_file files name bytes }
