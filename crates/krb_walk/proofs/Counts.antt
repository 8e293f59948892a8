-- How many steps give a record, and that each row is of a record that is alive.
use Rattle.krb_walk.proofs.Cited.{◌≡◌, ℕ, suc, ◌+◌, ◌<◌, ◌≤◌, Bool, true, false, cond, List, [], ◌∷◌, ◌++◌, length, map, Option, Some, None, inl, inr, refl, sym, ap, ◌∙◌, subst, arith, ◌==◌, nat_le, filter, AllByRecursion, list_any, length-append, nat_tests, Store, Record, end_of, IsSound, records, next_live, Changes, ReplyContent, Placed, Gone, Rewritten, is_placed, stop_cursor, Row, live_places, carry, RecordName, WalkEvent, Track, carry_by, IsTrack, rows_at_event, given_over, is_name, place_among, IsNamed, records_from, additions}
use Rattle.krb_walk.proofs.Stops.{stops_give_records}
use Rattle.krb_walk.proofs.Cells.{rows_of_next}
use Rattle.krb_walk.proofs.Places.{or_cases}
use Rattle.krb_walk.proofs.WalkEvents.{end_of_step, effect_of, carry_by-own}
use Rattle.krb_walk.proofs.Lives.{lives_lt, puts_insert, cuts_insert}
use Rattle.krb_walk.proofs.Carries.{below, carry_keeps_rank}
use Rattle.krb_walk.proofs.Ranked.{AreDistinct, Keeps, among_none}
use Rattle.krb_walk.proofs.Comes.{keeps_here, keeps_next}

-- counts of places at or after a cursor
count_in : (f : ℕ → Bool) (front back : List ℕ) (p : ℕ) → length (filter f (front ++ p ∷ back)) ≤ length (filter f (front ++ back)) + 1
count_in f [] back p = search arith
count_in f (x ∷ front) back p = search (arith, count_in f front back p)

count_out : (f : ℕ → Bool) (front back : List ℕ) (p : ℕ) → length (filter f (front ++ back)) ≤ length (filter f (front ++ p ∷ back)) + 0
count_out f [] back p = search arith
count_out f (x ∷ front) back p = search (arith, count_out f front back p)

-- the number of places at or after c
abbrev ahead_of : ℕ → List ℕ → ℕ
ahead_of c ps = length (filter (λ p. nat_le c p) ps)

ahead_places : (c : ℕ) (rs : List Record) → length (filter (λ r. nat_le c r.place) rs) ≡ ahead_of c (map (λ r. r.place) rs)
ahead_places c [] = refl
ahead_places c (r ∷ rs) = search (arith, ahead_places c rs)

-- no record is left at the end
left_none : (e : ℕ) (rs : List Record) → AllByRecursion (λ q. q < e) (map (λ r. r.place) rs) → filter (λ r. nat_le e r.place) rs ≡ []
left_none e [] all = refl
left_none e (r ∷ rs) all = let misses : nat_le e r.place ≡ false = grind (arith, nat_tests, all.0) in rw misses (left_none e rs all.1)

pub none_at_end : (s : Store) → IsSound s → records_from s (end_of s) ≡ []
none_at_end s sound = left_none (end_of s) (records s) (lives_lt s.first s.cells sound)

-- a step gives the first record left
go_count : (n : ℕ) (s : Store) (c : ℕ) (found : Option Record) → IsSound s → next_live s c ≡ found → length (rows_of_next n found) + length (records_from s (stop_cursor (end_of s) found)) ≤ length (records_from s c)
go_count n s c found sound is = search (arith, none_at_end, stops_give_records)

-- 1 if a reply accepts an addition, or else 0
abbrev added : ReplyContent → ℕ
added content = cond (is_placed content) 1 0

ahead_below : (c : ℕ) (ps : List ℕ) → ahead_of c ps + below c ps ≡ length ps
ahead_below c [] = refl
ahead_below c (p ∷ ps) = search (arith, ahead_below c ps)

shift_count : (content : ReplyContent) (old new : Store) (c : ℕ) → IsSound old → Changes content old new → length (records_from new (carry_by content old new c)) ≤ length (records_from old c) + added content
shift_count (Placed p) old new c sound h = let i = puts_insert old new p sound h in omega (arith, count_in (λ q. nat_le c q) i.front i.back p, ap (ahead_of c) i.lo_is, ap (ahead_of c) i.hi_is, ahead_places c (records old), ahead_places c (records new))
shift_count (Gone p) old new c sound h = let i = cuts_insert old new p sound h in omega (arith, count_out (λ q. nat_le c q) i.front i.back p, ap (ahead_of c) i.lo_is, ap (ahead_of c) i.hi_is, ahead_places c (records old), ahead_places c (records new))
shift_count (Rewritten p) old new c sound h =
    omega (arith, carry_keeps_rank old new c h, h.as_many, ahead_below c (live_places old), ahead_below (carry old new c) (live_places new), ahead_places c (records old), ahead_places (carry old new c) (records new))
shift_count content old new c sound h = omega (arith, ap (λ (s : Store). length (records_from s c)) h)

additions_cons : (x : WalkEvent) (xs : Track) (b : Bool) → is_placed x.reply ≡ b → additions (x ∷ xs) ≡ added x.reply + additions xs
additions_cons x xs b e = search arith

-- the rows that a walk is given are at most the live cells ahead and the additions since
pub few_steps : (n : ℕ) (s : Store) (names : List RecordName) (c : Option ℕ) (t u : Track) (last : Store) (d : ℕ) → IsTrack n s names c (t ++ u) last → c ≡ Some d → length (given_over t) ≤ length (records_from s d) + additions t
few_steps n s names c [] u last d h at = omega arith
few_steps n s names c (x ∷ t) u last d h at =
    let adds = additions_cons x t (is_placed x.reply) refl in
    let rows = length-append (rows_at_event x) (given_over t) in
    let same = ap (λ (z : Store). length (records_from z d)) h.0.before in
    elim (effect_of x h.0.effect) [
      | inl holds ↦ (
          let ih = few_steps (suc n) x.after _ x.to t u last _ h.1 (holds.stays d (h.0.from ∙ at)) in
          omega (arith, ih, adds, rows, same, ap length holds.silent, shift_count x.reply x.before x.after d h.0.sound h.0.changes))
      | inr goes ↦ (
          let stop = end_of_step x goes.at in
          let is : d ≡ goes.at = cc (at, goes.stood, h.0.from) in
          let from = ap (λ (m : ℕ). length (records_from x.before m)) is in
          let ih = few_steps (suc n) x.after _ x.to t u last stop h.1 goes.is_there in
          let go = go_count x.number x.before goes.at (next_live x.before goes.at) h.0.sound refl in
          let put = ap (λ (m : ℕ). length (records_from x.after m)) (carry_by-own x.walk x.reply x.before x.after stop goes.own) in
          omega (arith, ih, adds, rows, same, from, go, put, ap length goes.same_rows, shift_count x.reply x.before x.after stop h.0.sound h.0.changes))
    ]

-- each row is of a record that is alive
record Named (names : List RecordName) (ps : List ℕ) (p : ℕ) : Type 0 where
  name : RecordName
  is_there : place_among name names ps ≡ Some p

itself : (x : RecordName) → is_name x x ≡ true
itself x = let one : (x.place == x.place) ≡ true = grind (arith, nat_tests) in let two : (x.birth == x.birth) ≡ true = grind (arith, nat_tests) in rw (one, two) refl

named_head : (x : RecordName) (q p : ℕ) (names : List RecordName) (ps : List ℕ) → (q == p) ≡ true → Named (x ∷ names) (q ∷ ps) p
named_head x q p names ps e = let same : q ≡ p = grind (arith, nat_tests) in record { name = x; is_there = ap (λ (b : Bool). cond b (Some q) (place_among x names ps)) (itself x) ∙ ap Some same }

named_of : (p : ℕ) (names : List RecordName) (ps : List ℕ) → AreDistinct names → length names ≡ length ps → list_any (λ q. q == p) ps ≡ true → Named names ps p
named_of p [] [] d e h = cc
named_of p [] (q ∷ ps) d e h = absurd (omega (arith, e))
named_of p (x ∷ names) [] d e h = cc
named_of p (x ∷ names) (q ∷ ps) d e h = search (arith, or_cases, named_head, among_none, named_of p names ps d.1)

in_filtered : (f : Record → Bool) (rs : List Record) (r : Record) (rest : List Record) → filter f rs ≡ r ∷ rest → list_any (λ q. q == r.place) (map (λ y. y.place) rs) ≡ true
in_filtered f [] r rest is = cc
in_filtered f (x ∷ rs) r rest is = grind (arith, nat_tests, in_filtered f rs r rest)

named_next : (x : WalkEvent) (c : ℕ) (found : Option Record) → IsSound x.before → Keeps x.number x.before x.names → next_live x.before c ≡ found → AllByRecursion (λ row. IsNamed x row.stood.place) (rows_of_next x.number found)
named_next x c None sound k is = tt
named_next x c (Some r) sound k is =
    let named = named_of r.place x.names (live_places x.before) k.distinct k.as_many (in_filtered (λ y. nat_le c y.place) (records x.before) r _ (stops_give_records x.before c r sound is).first) in
    (record { name = named.name; is_there = named.is_there }, tt)

pub rows_named : (n : ℕ) (s : Store) (names : List RecordName) (c : Option ℕ) (t : Track) (last : Store) → IsTrack n s names c t last → Keeps n s names → AllByRecursion (λ x. AllByRecursion (λ row. IsNamed x row.stood.place) (rows_at_event x)) t
rows_named n s names c [] last h k = tt
rows_named n s names c (x ∷ t) last h k =
    let now = keeps_here n s names c x h.0 k in
    let rest = rows_named (suc n) x.after _ x.to t last h.1 (keeps_next n s names c x h.0 k) in
    let here : (rows : List Row) → rows_at_event x ≡ rows → AllByRecursion (λ row. IsNamed x row.stood.place) rows → AllByRecursion (λ row. IsNamed x row.stood.place) (rows_at_event x) = λ rows e all. subst (AllByRecursion (λ row. IsNamed x row.stood.place)) (sym e) all in
    elim (effect_of x h.0.effect) [
      | inl holds ↦ (here [] holds.silent tt, rest)
      | inr goes ↦ (here (rows_of_next x.number (next_live x.before goes.at)) goes.same_rows (named_next x goes.at (next_live x.before goes.at) h.0.sound now refl), rest)
    ]
