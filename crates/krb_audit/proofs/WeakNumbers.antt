-- The weak enctypes that were found.
use Rattle.krb_audit.proofs.Cited.{◌≡◌, ℕ, ◌<◌, Bool, true, false, List, [], ◌∷◌, ◌++◌, Option, map, get_or, length, replicate, refl, ap, ◌∙◌, arith, ◌==◌, ◌&&◌, ◌||◌, list_any, eq-eqb, eqb-true, PlacedEntry, set, inl, inr, nat_lt, AllByRecursion, range_with_len, MatchOption, option_map_or, cases_lt, ltb-true, ne_eqb, get_or-set_other, get_or-set_same, get_or_past, length-set, list_any-append}
use Rattle.std.proofs.lemmas.List.FromFn.{fill_by_all, get_or-map-range_with_len, length-map-range_with_len}
use Rattle.krb_text.specs.Etype.{Etype, etype_numbered, etype_table, is_weak}
use Rattle.krb_text.proofs.Found.{MatchOption-find}
use Rattle.krb_findings.specs.declared.weak_etypes.WeakEtypes.{WeakEtypes}
use Rattle.krb_audit.specs.Findings.{is_weak_among, weak_among}

-- ---- all are below 27

abbrev IsSmall : Etype → Type 0
IsSmall e = nat_lt e.number 27 ≡ true

all_small : AllByRecursion IsSmall etype_table
unfolding etype_table
all_small = (refl, (refl, (refl, (refl, (refl, (refl, (refl, (refl, (refl, (refl, (refl, (refl, (refl, (refl, (refl, tt)))))))))))))))

row_below : (n : ℕ) (o : Option Etype) → MatchOption o (Unit {0}) (λ e. IsSmall e × ((e.number == n) ≡ true)) → option_map_or (λ e. e.is_weak) o false ≡ true → n < 27
row_below n o found h = grind (arith, found, h, eqb-true, ltb-true)

pub weak_below : (n : ℕ) → is_weak n ≡ true → n < 27
weak_below n h = row_below n (etype_numbered n) (MatchOption-find IsSmall (λ e. e.number == n) etype_table all_small) h

-- ---- what is found

-- one of some entries has an enctype
abbrev has : List PlacedEntry → ℕ → Bool
has xs etype = list_any (λ x. x.1.enctype == etype) xs

pub none_found : record { found = replicate 27 false } ≡ weak_among []
unfolding weak_among etype_table
none_found = refl

-- of any number, also of one that is not below 27
pub found_at : (xs : List PlacedEntry) (n : ℕ) → get_or (weak_among xs).found n false ≡ is_weak_among xs n
unfolding weak_among
found_at xs n = elim (cases_lt n 27) [
  | inl lt ↦ get_or-map-range_with_len (is_weak_among xs) 0 27 n n false lt (omega arith)
  | inr le ↦ grind (arith, le, weak_below n, get_or_past (map (is_weak_among xs) (range_with_len 0 27)) n false, length-map-range_with_len (is_weak_among xs) 0 27)
]

-- the numbers below 27 as they were found
among_is : (w : WeakEtypes) (xs : List PlacedEntry) → length w.found ≡ 27 → ((n : ℕ) → n < 27 → get_or w.found n false ≡ is_weak_among xs n) → w ≡ weak_among xs
unfolding weak_among
among_is w xs long h = ap (λ (f : List Bool). let r : WeakEtypes = record { found = f } in r) (fill_by_all (is_weak_among xs) w.found 27 false long h)

many_found : (xs : List PlacedEntry) → length (weak_among xs).found ≡ 27
unfolding weak_among
many_found xs = length-map-range_with_len (is_weak_among xs) 0 27

-- with one more entry
more : (xs : List PlacedEntry) (x : PlacedEntry) (n : ℕ) (is : Bool) → (x.1.enctype == n) ≡ is → is_weak_among (xs ++ x ∷ []) n ≡ (is_weak n && (has xs n || (is || false)))
more xs x n is e = grind (arith, e, list_any-append (λ y. y.1.enctype == n) xs (x ∷ []))

-- a number that is not its enctype, or is not weak
same_found : (xs : List PlacedEntry) (x : PlacedEntry) (n : ℕ) → (x.1.enctype == n) ≡ false → is_weak_among (xs ++ x ∷ []) n ≡ is_weak_among xs n
same_found xs x n other = grind (arith, more xs x n false other)

pub with_weak : (xs : List PlacedEntry) (x : PlacedEntry) (w : WeakEtypes) (etype : ℕ) → w ≡ weak_among xs → etype ≡ x.1.enctype → is_weak etype ≡ true → record { found = set w.found etype true } ≡ weak_among (xs ++ x ∷ [])
with_weak xs x w etype is etype_is weak =
    let long : length w.found ≡ 27 = ap (λ (v : WeakEtypes). length v.found) is ∙ many_found xs in
    among_is _ (xs ++ x ∷ []) (length-set w.found etype true ∙ long) (λ n lt. grind (arith, is, etype_is, weak, long, found_at xs n, same_found xs x n, more xs x n true, eq-eqb x.1.enctype n, ne_eqb x.1.enctype n, weak_below etype, get_or-set_same w.found etype true false, get_or-set_other w.found etype n true false))

pub with_other : (xs : List PlacedEntry) (x : PlacedEntry) (w : WeakEtypes) (etype : ℕ) → w ≡ weak_among xs → etype ≡ x.1.enctype → is_weak etype ≡ false → w ≡ weak_among (xs ++ x ∷ [])
with_other xs x w etype is etype_is strong =
    among_is w (xs ++ x ∷ []) (ap (λ (v : WeakEtypes). length v.found) is ∙ many_found xs) (λ n lt. grind (arith, is, etype_is, strong, found_at xs n, same_found xs x n, eqb-true x.1.enctype n, ne_eqb x.1.enctype n))
