-- The places of live cells and of added entries, in lists and in sets.
use Rattle.krb_editors.proofs.Cited.{◌≡◌, ◌≢◌, ℕ, ◌<◌, ◌≤◌, true, List, [], ◌∷◌, map, Option, Some, None, refl, ap, arith, Store, Record, IsSound, end_of, is_place, next_live, stop_at, stop_of, zero, suc, Bool, false, ◌++◌, length, get_or, sym, ◌∙◌, subst, list_any, Event, nth_or, ReplyContent, Rules, SessionState, after, history, moment, state_after, KeytabState, HaveSame, followed_past, followed_over, places_after, records_from, stops_end, stops_give_records, IsNonDecreasing, Rises, eq-eqb, eqb-true, any_of_map, hidden_at, hidden_from, hides_added, ◌||◌, ◌&&◌, ◌==◌, not, filter, nat_lt, cond, option_and_then}
use Rattle.krb_walk.specs.declared.stop.Stop.TheVariants.{Live}
use Rattle.krb_walk.proofs.Cells.{stops_live}
use Rattle.std.specs.Ordering.{nat_cmp}
use Rattle.std.specs.BTreeMap.{is_at}
use Rattle.std.proofs.lemmas.Bool.Decides.{nat_tests}
use Rattle.std.proofs.lemmas.List.Folds.{Any-from_list_any, list_any-append, list_any-from_Any}
use Rattle.std.proofs.lemmas.Map.Views.{any-filter_same}
use Rattle.std.specs.Cmp.{both_ways}

-- the places of the records at or after a place
abbrev pub places_from : Store → ℕ → List ℕ
places_from s p = map (λ r. r.place) (records_from s p)

-- a stop at a live cell: its place is the first that is left, and the others are those from the next place on
pub record Passes (s : Store) (p place next : ℕ) : Type 0 where
  pub first : places_from s p ≡ place ∷ places_from s next
  pub is_place : is_place s next ≡ true
  pub ahead : p < next
  pub within : next ≤ end_of s

pub passes : (s : Store) (p place next : ℕ) → IsSound s → Live place next ≡ stop_at s p → Passes s p place next
passes s p place next sound is =
    let live = stops_live s p place next sound is in
    let stop = stops_give_records s p (record { place = place; next = next; bytes = live.bytes }) sound live.next in
    record {
      first = ap (map (λ r. r.place)) stop.first;
      is_place = stop.place;
      ahead = (let after = stop.at_or_after in let ahead = stop.ahead in omega (arith, after, ahead));
      within = stop.within;
    }

none_by : (s : Store) (p : ℕ) (found : Option Record) → next_live s p ≡ found → ((place next : ℕ) → stop_of s found ≢ Live place next) → places_from s p ≡ []
none_by s p None found_is not_live = ap (map (λ r. r.place)) (stops_end s p found_is)
none_by s p (Some r) found_is not_live = absurd (not_live r.place r.next refl)

-- any other stop: no place is left
pub passes_none : (s : Store) (p : ℕ) → ((place next : ℕ) → stop_at s p ≢ Live place next) → places_from s p ≡ []
passes_none s p not_live = none_by s p (next_live s p) refl not_live

-- ---- lists with the same numbers

pub same_refl : (xs : List ℕ) → HaveSame xs xs
same_refl xs = record { finds = λ test. refl }

pub same_trans : (xs ys zs : List ℕ) → HaveSame xs ys → HaveSame ys zs → HaveSame xs zs
same_trans xs ys zs h k = record { finds = λ test. h.finds test ∙ k.finds test }

pub same_map : (f : ℕ → ℕ) (xs ys : List ℕ) → HaveSame xs ys → HaveSame (map f xs) (map f ys)
same_map f xs ys h = record { finds = λ test. any_of_map test f xs ∙ h.finds (λ x. test (f x)) ∙ sym (any_of_map test f ys) }

any_filter : (keep test : ℕ → Bool) (xs : List ℕ) → list_any test (filter keep xs) ≡ list_any (λ x. keep x && test x) xs
any_filter keep test [] = refl
any_filter keep test (x ∷ xs) = grind (arith, any_filter keep test xs)

same_filter : (keep : ℕ → Bool) (xs ys : List ℕ) → HaveSame xs ys → HaveSame (filter keep xs) (filter keep ys)
same_filter keep xs ys h = record { finds = λ test. any_filter keep test xs ∙ h.finds (λ x. keep x && test x) ∙ sym (any_filter keep test ys) }

same_cons : (p : ℕ) (xs ys : List ℕ) → HaveSame xs ys → HaveSame (p ∷ xs) (p ∷ ys)
same_cons p xs ys h = record { finds = λ test. ap (λ (b : Bool). test p || b) (h.finds test) }

-- places that are the same are the same after a reply
pub same_after : (old new : Store) (reply : ReplyContent) (xs ys : List ℕ) → HaveSame xs ys → HaveSame (places_after old new reply xs) (places_after old new reply ys)
same_after old new reply xs ys h = grind (arith, same_cons, same_filter, same_map, h)

hides_by : (xs ys : List ℕ) (from : Option ℕ) → HaveSame xs ys → option_and_then (hidden_at xs) from ≡ option_and_then (hidden_at ys) from
hides_by xs ys from h = grind (arith, h.finds)

-- places that are the same hide the same
pub hides_same : (k : KeytabState) (xs ys : List ℕ) → HaveSame xs ys → hides_added k xs ≡ hides_added k ys
hides_same k xs ys h = hides_by xs ys (hidden_from k) h

-- ---- histories

-- the places after one more event
pub followed_more : {S I : Type 0} (r : Rules S I) (s : SessionState S) (es : List (Event I)) (e : Event I) (places : List ℕ)
    → followed_over r places (history r s (es ++ e ∷ [])) ≡ followed_past r (moment r (state_after r s es) e) (followed_over r places (history r s es))
followed_more r s [] e places = refl
followed_more r s (x ∷ es) e places = followed_more r (after r s x) es e (followed_past r (moment r s x) places)

-- places that were followed over events, and past one more
pub same_followed : {S I : Type 0} (r : Rules S I) (start old : SessionState S) (es : List (Event I)) (e : Event I) (was is : List ℕ) → old ≡ state_after r start es
    → HaveSame was (followed_over r [] (history r start es)) → HaveSame is (followed_past r (moment r old e) was) → HaveSame is (followed_over r [] (history r start (es ++ e ∷ [])))
same_followed {S} r start old es e was is at before step =
    let there = followed_over r [] (history r start es) in
    let m = moment r (state_after r start es) e in
    let here : HaveSame is (followed_past r m was) = subst (λ (s : SessionState S). HaveSame is (followed_past r (moment r s e) was)) at step in
    rw (followed_more r start es e []) (same_trans is (followed_past r m was) (followed_past r m there) here (same_after (r.seen m.before.store) (r.seen m.after.store) m.reply was there before))

-- ---- ranks

-- how many of some numbers are below p, if those below it are the first i
pub below_point : (p : ℕ) (xs : List ℕ) (i : ℕ) → i ≤ length xs → ((k : ℕ) → k < i → nat_lt (get_or xs k 0) p ≡ true) → ((k : ℕ) → i ≤ k → k < length xs → nat_lt (get_or xs k 0) p ≡ false)
    → length (filter (λ q. nat_lt q p) xs) ≡ i
below_point p [] i le some none = omega arith
below_point p (x ∷ xs) zero le some none =
    let e : nat_lt x p ≡ false = none 0 (omega arith) (omega arith) in
    rw e (below_point p xs 0 (omega arith) (λ k lt. absurd (omega arith)) (λ k ge lt. none (suc k) (omega arith) (omega arith)))
below_point p (x ∷ xs) (suc i) le some none =
    let e : nat_lt x p ≡ true = some 0 (omega arith) in
    rw e (ap suc (below_point p xs i (omega arith) (λ k lt. some (suc k) (omega arith)) (λ k ge lt. none (suc k) (omega arith) (omega arith))))

-- the element of that rank
pub nth_or_get : (end : ℕ) (xs : List ℕ) (k : ℕ) → get_or xs k end ≡ nth_or end xs k
nth_or_get end [] k = refl
nth_or_get end (x ∷ xs) zero = refl
nth_or_get end (x ∷ xs) (suc k) = nth_or_get end xs k

-- ascending numbers do not fall
rises_ge : (lo end : ℕ) (xs : List ℕ) (k d : ℕ) → Rises lo xs end → k < length xs → lo ≤ get_or xs k d
rises_ge lo end [] k d h lt = absurd (omega arith)
rises_ge lo end (x ∷ xs) zero d h lt = h.0
rises_ge lo end (x ∷ xs) (suc k) d h lt = omega (arith, h.0, rises_ge (suc x) end xs k d h.1 (omega arith))

pub rises-non_decreasing : (lo end : ℕ) (xs : List ℕ) → Rises lo xs end → IsNonDecreasing xs
rises-non_decreasing lo end [] h i j d le lt = absurd (omega arith)
rises-non_decreasing lo end (x ∷ xs) h zero zero d le lt = omega arith
rises-non_decreasing lo end (x ∷ xs) h zero (suc j) d le lt = omega (arith, rises_ge (suc x) end xs j d h.1 (omega arith))
rises-non_decreasing lo end (x ∷ xs) h (suc i) zero d le lt = absurd (omega arith)
rises-non_decreasing lo end (x ∷ xs) h (suc i) (suc j) d le lt = rises-non_decreasing (suc x) end xs h.1 i j d (omega arith) (omega arith)

-- ---- sets

-- a key is found by equality
is_at-eq : (q x : ℕ) → is_at (nat_cmp q) x ≡ (q == x)
is_at-eq q x = grind (arith, nat_tests)

-- a list has a number
abbrev has : ℕ → List ℕ → Bool
has q xs = list_any (is_at (nat_cmp q)) xs

-- what a test finds in one list it finds in another that has the same numbers
finds_in : (xs ys : List ℕ) → ((q : ℕ) → has q xs ≡ has q ys) → (test : ℕ → Bool) → list_any test xs ≡ true → list_any test ys ≡ true
finds_in xs ys each test is =
    let p = Any-from_list_any test xs is in
    let self : is_at (nat_cmp p.1) p.1 ≡ true = is_at-eq p.1 p.1 ∙ eq-eqb p.1 p.1 refl in
    let there : has p.1 xs ≡ true = list_any-from_Any (is_at (nat_cmp p.1)) xs (p.0, p.1, p.2, p.3, self) in
    let r = Any-from_list_any (is_at (nat_cmp p.1)) ys (sym (each p.1) ∙ there) in
    let same : p.1 ≡ r.1 = eqb-true p.1 r.1 (sym (is_at-eq p.1 r.1) ∙ r.4) in
    list_any-from_Any test ys (r.0, r.1, r.2, r.3, ap test (sym same) ∙ p.4)

-- lists that have the same numbers
pub same_from_has : (xs ys : List ℕ) → ((q : ℕ) → has q xs ≡ has q ys) → HaveSame xs ys
same_from_has xs ys each = record { finds = λ test. both_ways (list_any test xs) (list_any test ys) (finds_in xs ys each test) (finds_in ys xs (λ q. sym (each q)) test) }

cond_not : (b c : Bool) → cond b false c ≡ (not b && c)
cond_not b c = grind arith

-- what passes the test for q is another number than p, or not, as q is
apart : (p q k : ℕ) → is_at (nat_cmp q) k ≡ true → not (k == p) ≡ not (p == q)
apart p q k at = let same : q ≡ k = eqb-true q k (sym (is_at-eq q k) ∙ at) in rw (← same) (grind (arith, nat_tests))

-- a set without a number
pub same_removed : (p : ℕ) (old new : List ℕ) → ((q : ℕ) → has q new ≡ cond (is_at (nat_cmp p) q) false (has q old)) → HaveSame new (filter (λ q. not (q == p)) old)
same_removed p old new each =
    same_from_has new (filter (λ q. not (q == p)) old)
    (λ q. each q ∙ ap (λ (b : Bool). cond b false (has q old)) (is_at-eq p q) ∙ cond_not (p == q) (has q old)
    ∙ sym (any-filter_same (is_at (nat_cmp q)) (λ x. not (x == p)) (not (p == q)) (apart p q) old))

cond_or : (b c : Bool) → cond b true c ≡ b || c
cond_or b c = grind arith

-- the same test, the other way
is_at-sym : (p q : ℕ) → is_at (nat_cmp p) q ≡ is_at (nat_cmp q) p
is_at-sym p q = let same : (p == q) ≡ (q == p) = grind (arith, nat_tests) in is_at-eq p q ∙ same ∙ sym (is_at-eq q p)

-- a set with one more number
pub same_inserted : (p : ℕ) (old new : List ℕ) → ((q : ℕ) → has q new ≡ cond (is_at (nat_cmp p) q) true (has q old)) → HaveSame new (p ∷ old)
same_inserted p old new each = same_from_has new (p ∷ old) (λ q. each q ∙ ap (λ (b : Bool). cond b true (has q old)) (is_at-sym p q) ∙ cond_or (is_at (nat_cmp q) p) (has q old))

-- ---- a rewrite

-- one more was carried
pub same_turned : (new xs ys : List ℕ) (k : ℕ) → HaveSame new (k ∷ xs) → HaveSame (new ++ ys) (xs ++ k ∷ ys)
same_turned new xs ys k h = record { finds = λ test. grind (arith, list_any-append test new ys, list_any-append test xs (k ∷ ys), h.finds test) }
