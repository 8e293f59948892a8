-- What words spell, one part after the other.
use Rattle.krb_editors.proofs.Cited.{arith, ◌≡◌, None, Ok, refl, Option, Result, result_err, MistakeParts, ◌>>=◌, ◌>>◌}

-- what follows a mistake that is not there, and a part that is spelled
pub one_spelled : {X Y : Type 0} (odd : Option MistakeParts) (first : Result X MistakeParts) (then_ : X → Result Y MistakeParts) (x : X)
    → odd ≡ None → first ≡ Ok x → (odd >> (first >>= then_)) ≡ then_ x
one_spelled odd first then_ x none is = rw (none, is) refl

-- two parts without a mistake
pub two_spelled : {X Y Z : Type 0} (first : Result X MistakeParts) (second : Result Y MistakeParts) (put : X → Y → Z)
    → result_err first ≡ None → result_err second ≡ None → result_err (first >>= (λ x. second >>= (λ y. Ok (put x y)))) ≡ None
two_spelled first second put well good = grind (arith, well, good)
