-- What is left without the newest kvnos of each name, kvno by kvno, and the rows of the selected entries among all.
use Rattle.krb_audit.proofs.Cited.{◌≡◌, ◌∙◌, ℕ, ◌+◌, Bool, true, false, cond, ◌&&◌, List, [], ◌∷◌, map, Option, Some, refl, ap, sym, subst, arith, filter, filter_agree, eq-eqb, eqb-true, have_same_name, EntryParts, PlacedEntry, Row, Stamp, AreRows, AreNewest, has_other_version, is_old, is_old_row, newest, true≢false, ◌==◌}
use Rattle.std.specs.Prelude.{zero, suc}
use Rattle.std.proofs.Common.{⊎_elim}
use Rattle.std.proofs.lemmas.Bool.{and_parts, cases_Bool}
use Rattle.krb_names.proofs.SameNames.{same_equiv}
use Rattle.krb_audit.specs.Newest.{is_left, left_after, old_of}
use Rattle.krb_audit.specs.Standings.{after_next, is_next, selected_marks}
use Rattle.krb_audit.proofs.NewestStamps.{old_row}
use Rattle.krb_audit.proofs.RowLemmas.{IsRow, filter_rows, head_row, other_rows}

-- ---- what is left

-- one more kvno is passed over: the newest of what is left
pub one_passed : (n : ℕ) (xs : List PlacedEntry) (left before : List Row) (newest stamps : List (Option Stamp)) → AreRows xs (left_after n xs) left → before ≡ left → ((all ys : List PlacedEntry) → AreRows all ys before → AreNewest all ys newest) → stamps ≡ newest → AreRows xs (left_after (n + 1) xs) (filter (is_old_row stamps) left)
one_passed n xs left before newest stamps are is_before finds is_stamps =
    let up : n + 1 ≡ suc n = omega arith in
    let ys = left_after n xs in
    rw (up, is_stamps) (filter_rows (is_old_row newest) (λ x. is_old ys x.1) xs (λ r x row. old_row xs ys newest r x (finds xs ys (subst (AreRows xs ys) (sym is_before) are)) row) ys left are)

all_pass : {X : Type 0} (xs : List X) → filter (λ x. true) xs ≡ xs
all_pass [] = refl
all_pass (x ∷ xs) = ap (λ l. x ∷ l) (all_pass xs)

pub filter_twice : {X : Type 0} (p q : X → Bool) (xs : List X) → filter q (filter p xs) ≡ filter (λ x. p x && q x) xs
filter_twice p q [] = refl
filter_twice p q (x ∷ xs) = grind (arith, filter_twice p q xs)

-- what is left are the entries that are
pub left_are : (n : ℕ) (xs : List PlacedEntry) → left_after n xs ≡ filter (λ x. is_left n xs x.1) xs
left_are zero xs = sym (all_pass xs)
left_are (suc n) xs = ap (filter (λ x. is_old (left_after n xs) x.1)) (left_are n xs) ∙ filter_twice (λ x. is_left n xs x.1) (λ x. is_old (left_after n xs) x.1) xs

-- entries of one name and one kvno are left alike
pub left_alike : (n : ℕ) (xs : List PlacedEntry) (e f : EntryParts) → have_same_name e.principal f.principal ≡ true → e.version ≡ f.version → is_left n xs e ≡ is_left n xs f
left_alike zero xs e f same version = refl
left_alike (suc n) xs e f same version =
    let ys = left_after n xs in
    let names = filter_agree _ _ (λ (x : PlacedEntry). same_equiv.congr e.principal f.principal x.1.principal same) ys in
    grind (arith, left_alike n xs e f same version, names, version)

-- ---- the rows of the selected entries

-- a test says the same of two entries of one name and one kvno, by their rows
abbrev pub IsOfVersions : List PlacedEntry → (PlacedEntry → Bool) → Type 0
IsOfVersions all p = (r s : Row) (x y : PlacedEntry) → IsRow all x r → IsRow all y s → s.first ≡ r.first → s.stamp.kvno ≡ r.stamp.kvno → p x ≡ p y

-- a row is that of an entry that passes
record IsPassed (all : List PlacedEntry) (p : PlacedEntry → Bool) (s : Row) : Type 0 where
  entry : PlacedEntry
  is_row : IsRow all entry s
  passes : p entry ≡ true

passed_by : (b : Bool) (all : List PlacedEntry) (p : PlacedEntry → Bool) (x : PlacedEntry) (xs : List PlacedEntry) (s : Row) (ss : List Row) → p x ≡ b → AreRows all (cond b (x ∷ filter p xs) (filter p xs)) (s ∷ ss) → (AreRows all (filter p xs) (s ∷ ss) → IsPassed all p s) → IsPassed all p s
passed_by true all p x xs s ss is are others = record { entry = x; is_row = head_row all (filter p xs) x s ss are; passes = is }
passed_by false all p x xs s ss is are others = others are

first_passed : (all : List PlacedEntry) (p : PlacedEntry → Bool) (xs : List PlacedEntry) (s : Row) (ss : List Row) → AreRows all (filter p xs) (s ∷ ss) → IsPassed all p s
first_passed all p [] s ss are = absurd cc
first_passed all p (x ∷ xs) s ss are = passed_by (p x) all p x xs s ss refl are (first_passed all p xs s ss)

selected_by : (b : Bool) (all : List PlacedEntry) (p : PlacedEntry → Bool) (x : PlacedEntry) (xs : List PlacedEntry) (r : Row) (rs selected : List Row) → IsOfVersions all p → p x ≡ b → IsRow all x r → AreRows all (cond b (x ∷ filter p xs) (filter p xs)) selected
    → ((those : List Row) → AreRows all (filter p xs) those → selected_marks those rs ≡ map p xs) → selected_marks selected (r ∷ rs) ≡ b ∷ map p xs
selected_by true all p x xs r rs [] of is row are others = absurd cc
selected_by true all p x xs r rs (s ∷ ss) of is row are others =
    let first = head_row all (filter p xs) x s ss are in
    let next : is_next (s ∷ ss) r ≡ true = grind (arith, first.first, first.stamp, row.first, row.stamp, eq-eqb s.first r.first, eq-eqb s.stamp.kvno r.stamp.kvno) in
    grind (arith, next, others ss (other_rows all (filter p xs) x s ss are))
selected_by false all p x xs r rs [] of is row are others = ap (λ l. false ∷ l) (others [] are)
selected_by false all p x xs r rs (s ∷ ss) of is row are others =
    let passed = first_passed all p xs s ss are in
    let other : is_next (s ∷ ss) r ≡ false = ⊎_elim (λ next.
    let both = and_parts (s.first == r.first) (s.stamp.kvno == r.stamp.kvno) next in
    absurd (true≢false (sym passed.passes ∙ sym (of r s x passed.entry row passed.is_row (eqb-true s.first r.first both.0) (eqb-true s.stamp.kvno r.stamp.kvno both.1)) ∙ is))) (λ not_next. not_next) (cases_Bool (is_next (s ∷ ss) r)) in
    grind (arith, other, others (s ∷ ss) are)

-- each row is next among those of the entries that pass iff its entry passes
pub are_next : (all : List PlacedEntry) (p : PlacedEntry → Bool) → IsOfVersions all p → (xs : List PlacedEntry) (rows selected : List Row) → AreRows all xs rows → AreRows all (filter p xs) selected → selected_marks selected rows ≡ map p xs
are_next all p of [] [] selected are those = refl
are_next all p of [] (r ∷ rs) selected are those = absurd cc
are_next all p of (x ∷ xs) [] selected are those = absurd cc
are_next all p of (x ∷ xs) (r ∷ rs) selected are those =
    let rest = other_rows all xs x r rs are in
    selected_by (p x) all p x xs r rs selected of refl (head_row all xs x r rs are) those (λ left are_left. are_next all p of xs rs left rest are_left)
