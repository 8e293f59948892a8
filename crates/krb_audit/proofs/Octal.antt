-- One more octal digit.
use Rattle.krb_audit.proofs.Cited.{◌≡◌, ℕ, ◌+◌, arith, false, [], ◌∷◌, ◌++◌, ◌==◌, ◌≢◌, ◌-◌, ◌/◌, ◌%◌, octal}

not_zero : (n : ℕ) → n ≢ 0 → (n == 0) ≡ false
not_zero n ne = grind arith

pub octal_more : (places n : ℕ) → places ≢ 0 → n ≢ 0 → octal places n ≡ octal (places - 1) (n / 8) ++ (48 + n % 8) ∷ []
octal_more places n some more = search (arith, not_zero)
