-- Entries are noted in their groups one after the other.
use Rattle.krb_match.proofs.Cited.{◌≡◌, ◌∙◌, sym, ap, refl, arith, ℕ, Bool, true, false, cond, List, [], ◌∷◌, ◌++◌, Option, Some, None, ◌==◌, ◌&&◌, not, eqb-true, filter-append, fold-append, fold, list_any, filter, find, is_some, length, option_map, unwrap_or, BTreeMap, get, Updates, stamp_of, first_of, Parts, have_same_name, PlacedEntry, AreNoted, ArePlaced, ClassKey, is_in, placed_in, same_class, entry_key, find-append, option_or, IsNumbered, name_key, bytes_eq, get_or, Group, GroupKey, IsNoted, firsts_of, group_cmp, group_in, grown, is_any, is_of, same_key, seen_group, with_entry, IsAdded, is_first_in, names_agree, hash_of, nat_tests, get_or_default, Any-from_list_any, bytes_eq-Decides, option_cmp, option_eq, nat_eq, any_left, some_found, option_map_or, append-nil, EntryParts, Stamp, is_newer, newer, newest_from, newest_version, GroupParts, zero, suc, is_new}
use Rattle.std.specs.Ordering.{nat_cmp, is_eq}
use denote.Ref.{Bor}
use Rattle.krb_match.specs.Match.{etypes_from}

-- ---- what groups have of their entries

group_newest_from : (g : GroupParts) (e : EntryParts) (ys : List PlacedEntry) → g.0 ≡ stamp_of e → option_map_or (λ g. g.0.kvno) (fold with_entry (Some g) ys) 0 ≡ option_map_or (λ e. e.version) (newest_from (Some e) ys) 0
group_newest_from g e [] is = ap (λ (s : Stamp). s.kvno) is
group_newest_from g e (y ∷ ys) is = group_newest_from (newer g.0 (stamp_of y.1), firsts_of (with_entry (Some g) y)) (cond (is_newer e y.1) y.1 e) ys (grind (arith, is))

pub group_newest : (ys : List PlacedEntry) → option_map_or (λ g. g.0.kvno) (fold with_entry None ys) 0 ≡ newest_version ys
group_newest [] = refl
group_newest (y ∷ ys) = group_newest_from (stamp_of y.1, (y.0, y.1.enctype) ∷ []) y.1 ys refl

any_found : (t : ℕ → Bool) (n : ℕ) (fs : List (ℕ × ℕ)) → list_any (λ f. f.1 == n) fs ≡ true → t n ≡ true → is_some (find (λ f. t f.1) fs) ≡ true
any_found t n [] any e = absurd cc
any_found t n (f ∷ fs) any e = grind (arith, any, e, any_found t n fs, eqb-true f.1 n)

first_from_group : (t : ℕ → Bool) (g : Option GroupParts) (ys : List PlacedEntry) → find (λ f. t f.1) (firsts_of (fold with_entry g ys)) ≡ option_or (find (λ f. t f.1) (firsts_of g)) (option_map first_of (find (λ y. t y.1.enctype) ys))
first_from_group t g [] = grind arith
first_from_group t g (y ∷ ys) =
    let fs = firsts_of g in
    grind (arith, first_from_group t (with_entry g y) ys, append-nil fs, any_found t y.1.enctype fs, find-append (λ f. t f.1) fs (first_of y ∷ []))

-- the first entry of each kind of enctype is among the first ones of each enctype
pub group_first : (t : ℕ → Bool) (ys : List PlacedEntry) → find (λ f. t f.1) (firsts_of (fold with_entry None ys)) ≡ option_map first_of (find (λ y. t y.1.enctype) ys)
group_first t ys = first_from_group t None ys

-- ---- enctypes, one after the other

pub one_more_etype : (m n : ℕ) (found seen : List ℕ) (xs : List PlacedEntry) (p etype : ℕ) → m ≡ suc n → seen ≡ found → option_map first_of (find (λ x. is_new seen x.1.enctype) xs) ≡ Some (p, etype) → etypes_from n (found ++ etype ∷ []) xs ≡ etypes_from m found xs
unfolding etypes_from
one_more_etype m n found seen xs p etype m_is same is = rw (m_is, ← same) (grind (arith, is))

pub no_more_etypes : (n : ℕ) (found seen : List ℕ) (xs : List PlacedEntry) → seen ≡ found → option_map first_of (find (λ x. is_new seen x.1.enctype) xs) ≡ None → etypes_from n found xs ≡ found
unfolding etypes_from
no_more_etypes n found seen xs same is = search arith

pub no_turns : (n : ℕ) (found : List ℕ) (xs : List PlacedEntry) → n ≡ zero → etypes_from n found xs ≡ found
unfolding etypes_from
no_turns n found xs is = ap (λ (k : ℕ). etypes_from k found xs) is

-- ---- folds

fold_push : {X V : Type 0} (step : V → X → V) (t : X → Bool) (v : V) (xs : List X) (x : X) → fold step v (filter t (xs ++ x ∷ [])) ≡ cond (t x) (step (fold step v (filter t xs)) x) (fold step v (filter t xs))
fold_push step t v xs x = grind (arith, filter-append t xs (x ∷ []), fold-append step v (filter t xs))

-- the enctypes of a group are those of its entries
any_first : (t : ℕ → Bool) (ys : List PlacedEntry) → list_any (λ f. t f.1) (firsts_of (fold with_entry None ys)) ≡ list_any (λ y. t y.1.enctype) ys
any_first t ys = sym (some_found (λ f. t f.1) (firsts_of (fold with_entry None ys))) ∙ ap is_some (group_first t ys) ∙ some_mapped (find (λ y. t y.1.enctype) ys) ∙ some_found (λ y. t y.1.enctype) ys
  where
    some_mapped : (o : Option PlacedEntry) → is_some (option_map first_of o) ≡ is_some o
    some_mapped o = grind arith

none_there : (fs : List (ℕ × ℕ)) → (length fs == 0) ≡ not (list_any (λ f. true) fs)
none_there [] = refl
none_there (f ∷ fs) = grind (arith, nat_tests)

-- entries of a group that have an enctype are those of another
with_etype : (p : Parts) (v e : Option ℕ) (n : ℕ) (x : PlacedEntry) → is_any e n ≡ true → (is_of p v (Some n) x && true) ≡ (is_of p v e x && x.1.enctype == n)
with_etype p v e n x is = search (arith, eqb-true)

-- so there are none iff the group does not have the enctype
same_etypes : (p : Parts) (v e : Option ℕ) (n : ℕ) (xs : List PlacedEntry) → is_any e n ≡ true → is_first_in None (fold with_entry None (filter (is_of p v (Some n)) xs)) ≡ not (list_any (λ f. f.1 == n) (firsts_of (fold with_entry None (filter (is_of p v e) xs))))
same_etypes p v e n xs any =
    let of : Option ℕ → List PlacedEntry = λ e. filter (is_of p v e) xs in
    none_there (firsts_of (fold with_entry None (of (Some n))))
    ∙ ap not (any_first (λ m. true) (of (Some n)) ∙ any_left (is_of p v (Some n)) (λ x. true) xs ∙ ap (λ (t : PlacedEntry → Bool). list_any t xs) (λ i x. with_etype p v e n x any i) ∙ sym (any_left (is_of p v e) (λ x. x.1.enctype == n) xs) ∙ sym (any_first (λ m. m == n) (of e)))

-- ---- the maps

option_tie : (u v : Option ℕ) → is_eq (option_cmp nat_cmp u v) ≡ option_eq nat_eq u v
option_tie u v = search arith

key_tie : (k l : GroupKey) → is_eq (group_cmp k l) ≡ same_key k l
key_tie k l = grind (arith, nat_tests, option_tie k.1 l.1, option_tie k.2 l.2)

-- a group that was there or was made for an entry has the first ones that were there
pub firsts_before : {A : Type 0} (was : Option (Group A)) (fresh start : Group A) → start ≡ unwrap_or was fresh → fresh.firsts.items ≡ [] → start.firsts.items ≡ firsts_of (option_map seen_group was)
firsts_before was fresh start begun firsts = search arith

-- and one more entry makes it what was there with that entry
one_more : {A : Type 0} (x : PlacedEntry) (is_new : Bool) (was : Option (Group A)) (fresh start : Group A) → start ≡ unwrap_or was fresh → fresh.newest ≡ stamp_of x.1 → fresh.firsts.items ≡ [] → grown is_new (Some (seen_group start)) x ≡ grown is_new (option_map seen_group was) x
one_more x is_new was fresh start begun newest firsts = search arith

pub group_added : {A : Type 0} {new after : BTreeMap GroupKey (Group A)} (old : BTreeMap GroupKey (Group A)) (key : GroupKey) (x : PlacedEntry) (is_first : Option Bool) (is_new : Bool) (fresh start g : Group A) → after ≡ new → Updates group_cmp old new key (Some g) → start ≡ unwrap_or (get group_cmp old key) fresh → fresh.newest ≡ stamp_of x.1 → fresh.firsts.items ≡ []
    → Some (seen_group g) ≡ grown is_new (Some (seen_group start)) x → is_new ≡ is_first_in is_first (group_in old key) → IsAdded key is_first x old after
group_added {A} {new} {after} old key x is_first is_new fresh start g same updates begun newest firsts grown_is new_is k =
    grind (arith, same, updates.0 k, key_tie key k, grown_is, one_more x is_new (get group_cmp old key) fresh start begun newest firsts, new_is)

-- an entry was added to all four
pub noted : {A : Type 0} (i v e : ℕ) (x : PlacedEntry) (a b : Bool) (old one two three new : BTreeMap GroupKey (Group A)) → v ≡ x.1.version → e ≡ x.1.enctype → a ≡ is_first_in None (group_in old (i, None, Some e)) → b ≡ is_first_in None (group_in two (i, Some v, Some e))
    → IsAdded (i, None, Some e) None x old one → IsAdded (i, None, None) (Some a) x one two → IsAdded (i, Some v, Some e) None x two three → IsAdded (i, Some v, None) (Some b) x three new → IsNoted i x old new
noted i v e x a b old one two three new v_is e_is a_is b_is first second third fourth k = by k.0 k.1 k.2
  where
    by : (j : ℕ) (v e : Option ℕ) → group_in new (j, v, e) ≡ cond (i == j && (is_any v x.1.version && is_any e x.1.enctype)) (grown (is_first_in None (group_in old (j, v, Some x.1.enctype))) (group_in old (j, v, e)) x) (group_in old (j, v, e))
    by j None None = grind (arith, nat_tests, a_is, e_is, first (j, None, None), second (j, None, None), third (j, None, None), fourth (j, None, None))
    by j None (Some n) = grind (arith, nat_tests, a_is, e_is, first (j, None, Some n), second (j, None, Some n), third (j, None, Some n), fourth (j, None, Some n))
    by j (Some m) None = grind (arith, nat_tests, b_is, v_is, e_is, first (i, Some v, Some e), second (i, Some v, Some e), first (j, Some m, None), second (j, Some m, None), third (j, Some m, None), fourth (j, Some m, None))
    by j (Some m) (Some n) = grind (arith, nat_tests, b_is, v_is, e_is, first (i, Some v, Some e), second (i, Some v, Some e), first (j, Some m, Some n), second (j, Some m, Some n), third (j, Some m, Some n), fourth (j, Some m, Some n))

-- ---- the entries so far

pub none_noted : {A : Type 0} (names : List (List ℕ)) (groups : BTreeMap GroupKey (Group A)) → groups.entries ≡ [] → AreNoted names [] groups
none_noted names groups empty p i v e number = rw empty refl

pub none_placed : (places : BTreeMap ClassKey (ℕ × Bor (List ℕ))) → places.entries ≡ [] → ArePlaced [] places
none_placed places empty k = rw empty refl

-- two names have one number iff they are the same
same_number : (names : List (List ℕ)) (p q : Parts) (i j : ℕ) → IsNumbered names p (Some i) → IsNumbered names q (Some j) → (i == j) ≡ have_same_name q p
same_number names p q i j of_p of_q =
    let any = Any-from_list_any (bytes_eq (name_key p)) names (sym of_p.found) in
    let there : bytes_eq (name_key p) (get_or names any.0 []) ≡ true = ap (bytes_eq (name_key p)) (get_or_default names any.0 [] any.1 any.2 ∙ any.3) ∙ any.4 in
    let same : i ≡ any.0 = eqb-true i any.0 (sym (of_p.alone any.0 any.2) ∙ there) in
    ap (λ (n : ℕ). n == j) same ∙ swapped any.0 j ∙ sym (of_q.alone any.0 any.2) ∙ ap (bytes_eq (name_key q)) (sym ((bytes_eq-Decides (name_key p) (get_or names any.0 [])).0 there)) ∙ names_agree q p
  where
    swapped : (m n : ℕ) → (m == n) ≡ (n == m)
    swapped m n = grind (arith, nat_tests)

pub noted_next : {A : Type 0} (names : List (List ℕ)) (before : List PlacedEntry) (x : PlacedEntry) (i : ℕ) (old new : BTreeMap GroupKey (Group A)) → AreNoted names before old → IsNumbered names x.1.principal (Some i) → IsNoted i x old new → AreNoted names (before ++ x ∷ []) new
noted_next names before x i old new h number n p j v e first =
    grind (arith, n (j, v, e), same_number names x.1.principal p i j number first, h p j v e first, h p j v (Some x.1.enctype) first, same_etypes p v e x.1.enctype before, fold_push with_entry (is_of p v e) None before x)

pub placed_next : (before : List PlacedEntry) (x : PlacedEntry) (h v e : ℕ) (old new : BTreeMap ClassKey (ℕ × Bor (List ℕ))) → h ≡ hash_of (entry_key x) → v ≡ x.1.version → e ≡ x.1.enctype → ArePlaced before old
    → ((k : ClassKey) → placed_in new k ≡ cond (same_class (h, v, e) k) (option_or (placed_in old (h, v, e)) (Some (x.0, entry_key x))) (placed_in old k)) → ArePlaced (before ++ x ∷ []) new
placed_next before x h v e old new h_is v_is e_is were n k =
    grind (arith, h_is, v_is, e_is, n k, were k, were (h, v, e), find-append (is_in k) before (x ∷ []), eqb-true h k.0, eqb-true v k.1, eqb-true e k.2)
