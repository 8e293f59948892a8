-- The numbers of names: their places in a set.
use Rattle.krb_match.proofs.Cited.{◌≡◌, ◌∙◌, sym, refl, arith, ap, get_or, take, drop, length, ◌-◌, take_all, ℕ, Bool, true, false, List, [], ◌∷◌, ◌++◌, map, filter, list_any, bytes_eq, Parts, PlacedEntry, same_equiv, HaveSameNames, entry_key, has_name, is_among, name_key, names_agree}

any_key : (p : Parts) (xs : List PlacedEntry) → list_any (bytes_eq (name_key p)) (map entry_key xs) ≡ has_name p xs
any_key p [] = refl
any_key p (x ∷ xs) = grind (arith, names_agree p x.1.principal, any_key p xs)

-- a name is in the set iff an entry has it
pub among_is : (xs : List PlacedEntry) (names : List (List ℕ)) → HaveSameNames (map entry_key xs) names → (p : Parts) → is_among names (name_key p) ≡ has_name p xs
among_is xs names same p = sym (same (name_key p)) ∙ any_key p xs

pub none_named : {X : Type 0} (t : X → Bool) (xs : List X) → list_any t xs ≡ false → filter t xs ≡ []
none_named t [] e = refl
none_named t (x ∷ xs) e = grind (arith, e, none_named t xs)

pub some_named : {X : Type 0} (t : X → Bool) (xs : List X) → list_any t xs ≡ true → filter t xs ≡ [] → ⊥
some_named t [] e none = absurd cc
some_named t (x ∷ xs) e none = grind (arith, e, none, some_named t xs)

-- a key is that of the next entry, and the others are those of the entries after it
pub keys_next : {K : Type 0} (f : K → List ℕ) (rest : List K) (key : K) (x : PlacedEntry) (xs : List PlacedEntry) → map f rest ≡ map entry_key (x ∷ xs) → key ≡ get_or rest 0 key → (f key ≡ entry_key x) × (map f (take (length rest - 1) (drop 1 rest)) ≡ map entry_key xs)
keys_next f [] key x xs e is = absurd cc
keys_next f (k ∷ ks) key x xs e is = (ap f is ∙ cc, ap (map f) (take_all (length (k ∷ ks) - 1) ks (omega arith)) ∙ cc)

-- an entry among others has its name
pub named_here : (before rest : List PlacedEntry) (x : PlacedEntry) → has_name x.1.principal (before ++ x ∷ rest) ≡ true
named_here [] rest x = grind (arith, same_equiv.refl x.1.principal)
named_here (y ∷ ys) rest x = grind (arith, named_here ys rest x)
