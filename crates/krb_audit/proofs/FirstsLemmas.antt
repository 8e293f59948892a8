-- The first entry that is alike, when one more entry is added.
use Rattle.krb_audit.proofs.Cited.{◌≡◌, arith, name_in, have_same_name, ℕ, Bool, true, false, cond, List, [], ◌∷◌, ◌++◌, Option, Some, None, refl, ap, ◌∙◌, option_map, bytes_eq, PlacedEntry, first_number, find, on_equiv, and_equiv, nat_eq_equiv, find-append, is_alike, IsEquivalence, Alike, first_alike, AreFirsts, Key, same_key}
use Rattle.std.specs.Option.{option_or, unwrap_or}
use Rattle.krb_names.proofs.Numbered.{number_test}
use Rattle.krb_names.proofs.SameNames.{same_equiv}

alike_equiv : IsEquivalence is_alike
alike_equiv = search (arith, and_equiv, on_equiv, same_equiv, nat_eq_equiv)

-- the key of an entry, by the number of its name
abbrev pub key_in : ℕ → PlacedEntry → Key
key_in i x = (record { 0 = i }, x.1.version, x.1.enctype)

-- the keys of two entries are the same iff the entries are alike
key_alike : (all : List PlacedEntry) (x y : PlacedEntry) (i j : ℕ) → first_number x.1.principal all ≡ Some i → first_number y.1.principal all ≡ Some j → same_key (key_in i x) (key_in j y) ≡ is_alike x y
key_alike all x y i j one other = grind (arith, number_test name_in have_same_name same_equiv x.1.principal y.1.principal all i j one other)

find_same : (p q : PlacedEntry → Bool) → ((z : PlacedEntry) → p z ≡ q z) → (xs : List PlacedEntry) → find p xs ≡ find q xs
find_same p q each [] = refl
find_same p q each (x ∷ xs) = grind (arith, each x, find_same p q each xs)

-- the place and the secret key of an entry
abbrev first_of : PlacedEntry → ℕ × List ℕ
first_of x = (x.0, x.1.key)

more_by : (xs : List PlacedEntry) (x y : PlacedEntry) (b : Bool) → is_alike x y ≡ b
    → cond b (Some (unwrap_or (option_map first_of (find (is_alike x) xs)) (first_of x))) (option_map first_of (find (is_alike y) xs)) ≡ option_map first_of (option_or (find (is_alike y) xs) (cond b (Some x) None))
more_by xs x y true alike = grind (arith, find_same (is_alike x) (is_alike y) (λ z. alike_equiv.congr x y z alike) xs)
more_by xs x y false other = grind arith

-- with one more entry, the map has the first entries
pub firsts_next : (all xs : List PlacedEntry) (x : PlacedEntry) (i : ℕ) (look new : Key → Option (ℕ × List ℕ)) → AreFirsts all xs look → first_number x.1.principal all ≡ Some i
    → ((k : Key) → new k ≡ cond (same_key (key_in i x) k) (Some (unwrap_or (look (key_in i x)) (first_of x))) (look k)) → AreFirsts all (xs ++ x ∷ []) new
firsts_next all xs x i look new firsts number puts y j number_too = grind (arith, puts (key_in j y), key_alike all x y i j number number_too, firsts x i number, firsts y j number_too, more_by xs x y (is_alike x y) refl, alike_equiv.symm x y, find-append (is_alike y) xs (x ∷ []))

-- what is known of an earlier entry, with its place and secret key, if a later one with this secret key is alike
abbrev pub alike_to : List ℕ → ℕ × List ℕ → Alike
alike_to secret v = record { place = v.0; has_same_key = bytes_eq v.1 secret }

-- the same of the first entry that is alike
pub alike_here : (all xs : List PlacedEntry) (x : PlacedEntry) (i : ℕ) (look : Key → Option (ℕ × List ℕ)) → AreFirsts all xs look → first_number x.1.principal all ≡ Some i → option_map (alike_to x.1.key) (look (key_in i x)) ≡ first_alike xs x
alike_here all xs x i look firsts number = ap (option_map (alike_to x.1.key)) (firsts x i number) ∙ grind arith
