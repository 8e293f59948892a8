-- The keys of rows, and their lines, which are those of differences.
use Rattle.krb_copy.proofs.Cited.{◌≡◌, ℕ, ◌<◌, Bool, true, cond, List, [], ◌∷◌, ◌++◌, length, get_or, drop, Option, Some, None, refl, sym, ap, subst, ◌∙◌, arith, map, ◌||◌, ◌&&◌, not, ◌==◌, option_map, bytes_eq, list_any, flat_map, filter_map, find, EntryParts, PlacedEntry, are_twins, are_same, codes, All, AllByRecursion, flat_map-append, All-from_recursion, flat_map-map, placed_line, Keys, Row, number_test, position_at, false, list_any-append, eqb-true, ◌-◌, fold, replicate, set, contains_by, cases_lt, get_or-set_other, get_or-replicate, get_or_past, length-replicate, All-head, All-tail, find-append, or-false, Bor, marked, to_key}
use Rattle.krb_copy.specs.Diff.{Difference, Theirs, diff_text, difference_at, difference_by, difference_line, firsts, has_more_keys, has_twin}
use Rattle.krb_copy.specs.DiffRows.{AreKeys, class_number, entry_of, first_place, has_key, lacks, row_due, row_line, rows_due, shown}
use Rattle.krb_copy.proofs.Alike.{alike, twins_equiv}
use Rattle.std.proofs.lemmas.Grind.{common_steps}

-- ---- a list with one element set

at_set : {V : Type 0} (xs : List V) (i n : ℕ) (v none : V) → i < length xs → get_or (set xs i v) n none ≡ cond (i == n) v (get_or xs n none)
at_set xs i n v none lt = grind (arith, common_steps, get_or-set_other)

pub get_or_none : {V : Type 0} (n i : ℕ) (none : V) → get_or (replicate n none) i none ≡ none
get_or_none n i none = search (arith, cases_lt, get_or-replicate, get_or_past, length-replicate)

-- ---- the first row of a class

-- a row has a number and a key
abbrev has : ℕ → List ℕ → Row → Bool
has n key r = r.number == n && bytes_eq key r.entry.now.key

pub first_added : {A : Type 0} (rows : List Row) (r : Row) (old new : Keys A) (key : Bor (List ℕ)) → AreKeys rows old → r.number < length old.firsts.items → get_or old.firsts.items r.number None ≡ None → key.now ≡ r.entry.now.key
    → new.firsts.items ≡ set old.firsts.items r.number (Some (r.place, key)) → new.more ≡ old.more → AreKeys (rows ++ r ∷ []) new
first_added rows r old new key are lt none key_is set_is same = search (arith, at_set, eqb-true, find-append, list_any-append)

-- ---- a further row of a class

-- with a new key
pub key_added : {A : Type 0} (rows : List Row) (r : Row) (old new : Keys A) (first : ℕ × Bor (List ℕ)) → AreKeys rows old → Some first ≡ get_or old.firsts.items r.number None → new.firsts.items ≡ old.firsts.items
    → ((n : ℕ) (wanted : List ℕ) → contains_by (to_key n wanted) new.more ≡ cond (has n wanted r) true (contains_by (to_key n wanted) old.more)) → AreKeys (rows ++ r ∷ []) new
key_added rows r old new first are known firsts adds = search (arith, eqb-true, find-append, list_any-append)

-- or none
pub key_known : {A : Type 0} (rows : List Row) (r : Row) (old new : Keys A) (first : ℕ × Bor (List ℕ)) → AreKeys rows old → Some first ≡ get_or old.firsts.items r.number None → new.firsts.items ≡ old.firsts.items → new.more ≡ old.more → first.1.now ≡ r.entry.now.key → AreKeys (rows ++ r ∷ []) new
key_known rows r old new first are known firsts same key_is = search (arith, eqb-true, find-append, list_any-append)

-- ---- no row

pub none_added : {A : Type 0} (len : ℕ) (keys : Keys A) → keys.firsts.items ≡ replicate len None → keys.more.keys ≡ [] → AreKeys [] keys
none_added len keys none empty = search (arith, get_or_none)

-- ---- marks

pub as_long : {A : Type 0} (keys : Keys A) (rows : List Row) (marks : List Bool) → length (fold (marked keys) marks rows) ≡ length marks
as_long keys [] marks = refl
as_long keys (r ∷ rs) marks = as_long keys rs (marked keys marks r) ∙ (grind (arith, common_steps))

pub all_marked : {A : Type 0} (keys : Keys A) (n : ℕ) (rows : List Row) (marks : List Bool) → All (λ r. r.number < length marks) rows → get_or (fold (marked keys) marks rows) n false ≡ (get_or marks n false || lacks keys n rows)
all_marked keys n [] marks below = sym (or-false (get_or marks n false))
all_marked keys n (r ∷ rs) marks below =
    let rest = all_marked keys n rs (marked keys marks r) (subst (λ (len : ℕ). All (λ q. q.number < len) rs) (sym (grind (arith, common_steps))) (All-tail (λ (q : Row). q.number < length marks) r rs below)) in
    let at = at_set marks r.number n true false (All-head (λ (q : Row). q.number < length marks) r rs below) in
    grind (arith, rest, at, eqb-true r.number n)

-- the next row has a place
pub row_below : (len : ℕ) (rows : List Row) (i : ℕ) (r : Row) → All (λ q. q.number < len) rows → i < length rows → r ≡ get_or rows i r → r.number < len
row_below len rows i r below lt here = let h = below i r lt in let same = ap (λ (q : Row). q.number) here in omega (arith, h, same)

-- ---- classes have the same number iff their entries are twins

pub numbers_agree : (x y : EntryParts) (all : List PlacedEntry) (n m : ℕ) → class_number x all ≡ Some n → class_number y all ≡ Some m → (m == n) ≡ are_twins x y
numbers_agree x y all n m of_x of_y =
    number_test entry_of are_twins twins_equiv y x all m n of_y of_x ∙ twins_equiv.symm y x

-- ---- rows and their entries

-- the rows are those of these entries, if others are before them
abbrev AreRows : List PlacedEntry → List PlacedEntry → List PlacedEntry → List Row → Type 0
AreRows all before zs rows = map shown rows ≡ rows_due all before zs

-- what holds of no row, and of one more with its entry, holds of rows
module _ (all : List PlacedEntry) (P : List PlacedEntry → List PlacedEntry → List Row → Type 0) (none : (before : List PlacedEntry) → P before [] [])
    (more : (before zs : List PlacedEntry) (r : Row) (rs : List Row) → class_number r.entry.now all ≡ Some r.number → r.is_first ≡ not (has_twin r.entry.now before) → P (before ++ (r.place, r.entry.now) ∷ []) zs rs → P before ((r.place, r.entry.now) ∷ zs) (r ∷ rs)) where
  by_rows : (before zs : List PlacedEntry) (rows : List Row) → AreRows all before zs rows → P before zs rows
  by_rows before [] [] h = none before
  by_rows before [] (r ∷ rs) h = absurd cc
  by_rows before (z ∷ zs) [] h = absurd cc
  by_rows before (z ∷ zs) (r ∷ rs) h =
      let here : shown r ≡ row_due all before z = ap (λ (l : List (Option ℕ × Bool × PlacedEntry)). get_or l 0 (shown r)) h in
      let rest = by_rows (before ++ z ∷ []) zs rs (ap (λ (l : List (Option ℕ × Bool × PlacedEntry)). drop 1 l) h) in
      let same : z ≡ (r.place, r.entry.now) = sym (ap (λ (s : Option ℕ × Bool × PlacedEntry). let x : PlacedEntry = s.2 in x) here) in
      let Due : PlacedEntry → Type 0 = λ y. (Some r.number ≡ class_number y.1 all) × (r.is_first ≡ not (has_twin y.1 before)) × P (before ++ y ∷ []) zs rs in
      let due = subst Due same (ap (λ (s : Option ℕ × Bool × PlacedEntry). s.0) here, ap (λ (s : Option ℕ × Bool × PlacedEntry). s.1) here, rest) in
      subst (λ (y : PlacedEntry). P before (y ∷ zs) (r ∷ rs)) (sym same) (more before zs r rs (sym due.0) due.1 due.2)

-- each number is that of an entry
pub numbers_below : (len : ℕ) (all before zs : List PlacedEntry) (rows : List Row) → len ≡ length all → AreRows all before zs rows → All (λ r. r.number < len) rows
numbers_below len all before zs rows is h = subst (λ (l : ℕ). All (λ r. r.number < l) rows) (sym is) (All-from_recursion (λ (r : Row). r.number < length all) rows
    (by_rows all (λ before zs rows. AllByRecursion (λ r. r.number < length all) rows) (λ before. tt) (λ before zs r rs number first rest. ((position_at (λ (y : PlacedEntry). are_twins r.entry.now y.1) all r.number (r.place, r.entry.now) number).0, rest)) before zs rows h))

-- ---- a class, by its number

module _ (all : List PlacedEntry) (x : EntryParts) (n : ℕ) (of_x : class_number x all ≡ Some n) where
  any_rows : (q : EntryParts → Bool) (before zs : List PlacedEntry) (rows : List Row) → AreRows all before zs rows → list_any (λ r. r.number == n && q r.entry.now) rows ≡ list_any (λ z. are_twins x z.1 && q z.1) zs
  any_rows q = by_rows all (λ before zs rows. list_any (λ r. r.number == n && q r.entry.now) rows ≡ list_any (λ z. are_twins x z.1 && q z.1) zs) (λ before. refl)
      (λ before zs r rs number first rest. rw (numbers_agree x r.entry.now all n r.number of_x number, rest) refl)

  -- its keys that the others lack
  pub lacks_is : {A : Type 0} (before zs others_before others : List PlacedEntry) (rows other_rows : List Row) (keys : Keys A) → AreRows all before zs rows → AreRows all others_before others other_rows → AreKeys other_rows keys → lacks keys n rows ≡ has_more_keys x zs others
  lacks_is before zs others_before others rows other_rows keys h other_h are =
      any_rows (λ e. not (has_key keys n e.key)) before zs rows h ∙ ap (λ (q : PlacedEntry → Bool). list_any q zs) (λ i a. (
      let key = are.have n a.1.key ∙ any_rows (λ e. bytes_eq a.1.key e.key) others_before others other_rows other_h in
      let twins : are_twins x a.1 ≡ true → list_any (λ b. are_twins x b.1 && bytes_eq a.1.key b.1.key) others ≡ list_any (λ b. are_same a.1 b.1) others = λ twin. ap (λ (t : EntryParts → Bool). list_any (λ b. t b.1 && bytes_eq a.1.key b.1.key) others) (alike x a.1 twin) in
      let both : (are_twins x a.1 && not (has_key keys n a.1.key)) ≡ (are_twins x a.1 && not (list_any (λ b. are_same a.1 b.1) others)) = grind (arith, key, twins) in both) i)

  pub place_is : {A : Type 0} (before zs : List PlacedEntry) (rows : List Row) (keys : Keys A) → AreRows all before zs rows → AreKeys rows keys → first_place keys n ≡ option_map (λ y. y.0) (find (λ y. are_twins x y.1) zs)
  place_is before zs rows keys h are = are.firsts n ∙ by_rows all (λ before zs rows. option_map (λ r. r.place) (find (λ r. r.number == n) rows) ≡ option_map (λ y. y.0) (find (λ y. are_twins x y.1) zs)) (λ before. refl)
      (λ before zs r rs number first rest. grind (arith, numbers_agree x r.entry.now all n r.number of_x number, rest)) before zs rows h

-- ---- lines

-- the line of a difference, if there is one
abbrev line_of : Option Difference → List ℕ
line_of None = []
line_of (Some d) = difference_line d

line_by : (xs ys : List PlacedEntry) (x : PlacedEntry) (o : Option PlacedEntry) → row_line x (has_more_keys x.1 xs ys || has_more_keys x.1 ys xs) (option_map (λ y. y.0) o) ≡ line_of (difference_by xs ys x o)
line_by xs ys x o = grind arith

lines_of_some : (d : PlacedEntry → Option Difference) (zs : List PlacedEntry) → flat_map difference_line (filter_map d zs) ≡ flat_map (λ z. line_of (d z)) zs
lines_of_some d [] = refl
lines_of_some d (z ∷ zs) = grind (arith, lines_of_some d zs)

-- first rows give the lines of first entries
first_lines : (all : List PlacedEntry) (line : Row → List ℕ) (due : PlacedEntry → List ℕ) → ((r : Row) → class_number r.entry.now all ≡ Some r.number → line r ≡ due (r.place, r.entry.now)) → (before zs : List PlacedEntry) (rows : List Row) → AreRows all before zs rows
    → flat_map (λ r. cond r.is_first (line r) []) rows ≡ flat_map due (firsts before zs)
first_lines all line due each = by_rows all (λ before zs rows. flat_map (λ r. cond r.is_first (line r) []) rows ≡ flat_map due (firsts before zs)) (λ before. refl)
    (λ before zs r rs number first rest. grind (arith, each r number, first, rest))

-- all lines
pub all_lines : {A B : Type 0} (xs ys : List PlacedEntry) (ours others : List Row) (our_keys : Keys A) (other_keys : Keys B) (differ : ℕ → Bool) → AreRows (xs ++ ys) [] xs ours → AreRows (xs ++ ys) xs ys others → AreKeys ours our_keys → AreKeys others other_keys
    → ((n : ℕ) → differ n ≡ (lacks other_keys n ours || lacks our_keys n others))
    → flat_map (λ r. cond r.is_first (row_line (r.place, r.entry.now) (differ r.number) (first_place other_keys r.number)) []) ours ++ flat_map (λ r. cond r.is_first (placed_line (codes "+ ") (r.place, r.entry.now)) []) others ≡ diff_text xs ys
unfolding diff_text
all_lines xs ys ours others our_keys other_keys differ of_ours of_others our_are other_are marks =
    let all = xs ++ ys in
    let our_lines = first_lines all (λ r. row_line (r.place, r.entry.now) (differ r.number) (first_place other_keys r.number)) (λ z. line_of (difference_at xs ys z)) (λ r of_r.
    let x = r.entry.now in
    rw (marks r.number, lacks_is all x r.number of_r [] xs xs ys ours others other_keys of_ours of_others other_are, lacks_is all x r.number of_r xs ys [] xs others ours our_keys of_others of_ours our_are, place_is all x r.number of_r xs ys others other_keys of_others other_are)
    (line_by xs ys (r.place, x) (find (λ y. are_twins x y.1) ys))) [] xs ours of_ours in
    let other_lines = first_lines all (λ r. placed_line (codes "+ ") (r.place, r.entry.now)) (placed_line (codes "+ ")) (λ r of_r. refl) xs ys others of_others in
    rw (our_lines, other_lines, flat_map-append difference_line (filter_map (difference_at xs ys) (firsts [] xs)) (map Theirs (firsts xs ys)), lines_of_some (difference_at xs ys) (firsts [] xs), flat_map-map difference_line Theirs (firsts xs ys)) refl
