-- The numbers that a set has, as a list.
use Rattle.krb_show.proofs.Cited.{arith, ◌≡◌, ◌++◌, ◌∙◌, ap, sym, refl, ℕ, List, [], ◌∷◌, Bool, true, false, cond, list_any, BTreeSet, contains, is_eq, nat_cmp, ◌==◌, ◌||◌}
use Rattle.std.specs.Cmp.{unsigned_tied, unsigned_Decides}
use Rattle.std.proofs.lemmas.List.Folds.{list_any-append}

-- a number is among others
abbrev pub is_among : List ℕ → ℕ → Bool
is_among ns n = list_any (λ m. m == n) ns

-- a set has just the numbers of a list
abbrev pub Has : BTreeSet ℕ → List ℕ → Type 0
Has s ns = (q : ℕ) → contains nat_cmp s q ≡ is_among ns q

-- a set has a number more
abbrev pub Puts : BTreeSet ℕ → BTreeSet ℕ → ℕ → Type 0
Puts s t n = (q : ℕ) → contains nat_cmp t q ≡ cond (is_eq (nat_cmp n q)) true (contains nat_cmp s q)

either : (a b : Bool) → cond a true b ≡ (b || (a || false))
either a b = grind arith

again : (ns : List ℕ) (n q : ℕ) (b : Bool) → (n == q) ≡ b → is_among ns n ≡ true → cond b true (is_among ns q) ≡ is_among ns q
again ns n q b e h = grind (arith, (unsigned_Decides n q).0, e, h)

-- of the set with a number more, by that of the list
put_is : (s t : BTreeSet ℕ) (ns : List ℕ) (n q : ℕ) → Has s ns → Puts s t n → contains nat_cmp t q ≡ cond (n == q) true (is_among ns q)
put_is s t ns n q has put = put q ∙ ap (λ (b : Bool). cond b true (contains nat_cmp s q)) (unsigned_tied n q) ∙ ap (λ (b : Bool). cond (n == q) true b) (has q)

-- a number was put into the set, and to the end of the list
pub has_push : (s t : BTreeSet ℕ) (ns : List ℕ) (n : ℕ) → Has s ns → Puts s t n → Has t (ns ++ n ∷ [])
has_push s t ns n has put q = put_is s t ns n q has put ∙ either (n == q) (is_among ns q) ∙ sym (list_any-append (λ m. m == q) ns (n ∷ []))

-- a number was put into the set that was in it
pub has_again : (s t : BTreeSet ℕ) (ns : List ℕ) (n : ℕ) → Has s ns → Puts s t n → is_among ns n ≡ true → Has t ns
has_again s t ns n has put among q = put_is s t ns n q has put ∙ again ns n q (n == q) refl among
