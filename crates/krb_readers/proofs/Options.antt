-- What the words of a command spell, one after the other.
use Rattle.krb_readers.proofs.Cited.{arith, ◌≡◌, ℕ, ◌+◌, ◌<◌, List, length, map, drop, get_or, fold, Bor, Option, None, Result, Ok, refl, drop_more, result_map, MistakeParts, ◌>>=◌, ◌>>◌, each, result_err}

-- what follows two mistakes that are not there
pub no_mistakes : {X : Type 0} (a b : Option MistakeParts) (then_ : Result X MistakeParts) → a ≡ None → b ≡ None → (a >> (b >> then_)) ≡ then_
no_mistakes a b then_ ea eb = rw (ea, eb) refl

-- what follows two words that spell values
pub two_words : {X Y Z : Type 0} (a : Result X MistakeParts) (b : Result Y MistakeParts) (next : X → Y → Result Z MistakeParts) (x : X) (y : Y) → a ≡ Ok x → b ≡ Ok y → (a >>= (λ v. b >>= next v)) ≡ next x y
two_words a b next x y ea eb = rw (ea, eb) refl

-- a value that is put into another has its mistake
pub put_err : {X Y : Type 0} (r : Result X MistakeParts) (put : X → Y) → result_err (r >>= (λ v. Ok (put v))) ≡ result_err r
put_err r put = grind arith

module _ {X Y : Type 0} (g : Y → X → Y) (a : Y) where
  -- what the words that are left add to what is joined so far is what all spell; so it is after one more
  pub folds_left : (f : List ℕ → Result X MistakeParts) (words : List (Bor (List ℕ))) (i : ℕ) (d : Bor (List ℕ)) (v : X) (all : Result Y MistakeParts) → i < length words
      → f (get_or words i d).now ≡ Ok v → result_map (fold g a) (each f (map (λ word. word.now) (drop i words))) ≡ all
      → result_map (fold g (g a v)) (each f (map (λ word. word.now) (drop (i + 1) words))) ≡ all
  folds_left f words i d v all below is left = grind (arith, drop_more words i d below, is, left)
