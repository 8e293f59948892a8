-- Elements of a list that pass a test.
use Rattle.krb_text.proofs.Cited.{◌≡◌, List, [], ◌∷◌, map, Bool, true, false, cond, Some, refl, ap, find, list_any, AllByRecursion, MatchOption}
use Rattle.std.specs.Prelude.{◌||◌}

-- a test of what a list was made of
pub any_of_map : {X Y : Type 0} (p : Y → Bool) (f : X → Y) (xs : List X) → list_any p (map f xs) ≡ list_any (λ x. p (f x)) xs
any_of_map p f [] = refl
any_of_map p f (x ∷ xs) = ap (λ b. p (f x) || b) (any_of_map p f xs)

-- what holds of each element holds of the one that is found, which passes the test
pub MatchOption-find : {X : Type 0} (P : X → Type 0) (test : X → Bool) (xs : List X) → AllByRecursion P xs → MatchOption (find test xs) (Unit {0}) (λ x. P x × (test x ≡ true))
MatchOption-find P test [] all = tt
MatchOption-find {X} P test (x ∷ xs) all =
    let Q : X → Type 0 = λ y. P y × (test y ≡ true) in
    elim (test x) as (λ b. test x ≡ b → MatchOption (cond b (Some x) (find test xs)) (Unit {0}) Q) [
      | true ↦ λ e. (all.0, e)
      | false ↦ λ e. MatchOption-find P test xs all.1
    ] refl
