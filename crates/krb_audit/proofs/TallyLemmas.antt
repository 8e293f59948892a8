-- The numbers of findings, when one more entry is counted.
use Rattle.krb_audit.proofs.Cited.{◌≡◌, arith, ℕ, ◌+◌, Bool, true, false, List, ◌∷◌, length, filter}
use Rattle.std.specs.Prelude.{if◌then◌else◌}

pub counted : (b : Bool) (n m total : ℕ) (bs : List Bool) → m ≡ n + (if b then 1 else 0) → n + length (filter (λ c. c) (b ∷ bs)) ≡ total → m + length (filter (λ c. c) bs) ≡ total
counted true n m total bs is so_far = omega (arith, is, so_far)
counted false n m total bs is so_far = omega (arith, is, so_far)
