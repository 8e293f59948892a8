-- The laws of records, over rewrites too.
use Rattle.krb_walk.proofs.Cited.{◌≡◌, ℕ, suc, ◌+◌, ◌<◌, ◌≤◌, Bool, true, false, cond, List, [], ◌∷◌, ◌++◌, length, take, drop, Option, Some, None, inl, inr, refl, sym, ap, ◌∙◌, subst, arith, ◌&&◌, ◌==◌, ◌⊎◌, nat_le, nat_lt, IsSome, AllByRecursion, list_any, nat_tests, length-append, Store, end_of, IsSound, live_places, Puts, Cuts, Changes, ReplyContent, Placed, Gone, completes, is_step_reply, is_rewritten, Row, RecordName, WalkEvent, Track, first_names, names_after, IsWalkEvent, IsTrack, IsWalk, OneRow, is_name, place_among, place_of, rows_here, rows_of, passes_record, turn_of, HasTurn, IsAliveUntilDone, IsAddedAt, EachComesAsDue, flat_map-append}
use Rattle.krb_walk.proofs.Lives.{lives_lt, puts_insert, cuts_insert}
use Rattle.krb_walk.proofs.Names.{any_lt, apart}
use Rattle.krb_walk.proofs.WalkEvents.{find_later, find_first, end_of_step, effect_of, carry_by-same, carry_by-own}
use Rattle.krb_walk.proofs.Carries.{le_or}
use Rattle.krb_walk.proofs.Ranked.{Keeps, first_keeps, unborn, among_none, among_remove, Still, still_after}
use Rattle.krb_walk.proofs.Comes.{among_any, among_born, keeps_here, keeps_next, place_here, passes_none, Comes, behind_none, comes, at_most_one, turn_if_row, row_if_turn, none_if, track_rest, track_front, keeps_rest, split_at}
use Rattle.krb_walk.proofs.Unique.{one_turn}
use Rattle.krb_walk.proofs.Order.{in_order}

empty_by : (rows : List Row) (row : Row) → length (rows ++ row ∷ []) ≤ 1 → rows ≡ []
empty_by [] row le = refl
empty_by (x ∷ rows) row le = absurd (omega (arith, length-append rows (row ∷ [])))

one_of_rest : (r : RecordName) (t u : Track) → length (rows_of r (t ++ u)) ≤ 1 → OneRow (rows_of r u) → OneRow (rows_of r (t ++ u))
one_of_rest r t u le one = search (arith, flat_map-append, empty_by)

-- ---- alive until the walk is done
record HasPlace (o : Option ℕ) : Type 0 where
  at : ℕ
  is : o ≡ Some at

place_next : (r : RecordName) (n : ℕ) (s : Store) (names : List RecordName) (c : Option ℕ) (steps : Track) (done : WalkEvent) (later : Track) (last : Store) → IsTrack n s names c (steps ++ done ∷ later) last
    → AllByRecursion (λ x. IsSome (place_of r x)) steps → IsSome (place_of r done) → HasPlace (place_among r names (live_places s))
place_next r n s names c [] done later last h all some = grind (arith, nat_tests)
place_next r n s names c (x ∷ steps) done later last h all some = grind (arith, nat_tests)

ahead_on : (was is : Option ℕ) (c d p : ℕ) → (is ≡ None) ⊎ Still was is c d → was ≡ Some p → c ≤ p → HasPlace is → (q : ℕ) → is ≡ Some q → d ≤ q
ahead_on was is c d p h at le is_there q e = search arith

has_now : (r : RecordName) (x : WalkEvent) (xs : Track) → passes_record r x ≡ true → HasTurn r (x ∷ xs)
has_now r x xs e = record { at = x; is = find_first (passes_record r) x xs e; alive = search arith }

has_later : (r : RecordName) (x : WalkEvent) (xs : Track) → passes_record r x ≡ false → HasTurn r xs → HasTurn r (x ∷ xs)
has_later r x xs e has = record { at = has.at; is = find_later (passes_record r) x xs e ∙ has.is; alive = has.alive }

step_has : (r : RecordName) (n : ℕ) (s : Store) (names : List RecordName) (c : Option ℕ) (x : WalkEvent) (t : Track) (start p : ℕ) (b : Bool) → passes_record r x ≡ b → IsWalkEvent n s names c x → Keeps n s names → c ≡ Some start → place_of r x ≡ Some p → start ≤ p
    → HasPlace (place_among r (names_after x.number x.reply x.before x.after x.names) (live_places x.after))
    → ((next q : ℕ) → x.to ≡ Some next → place_among r (names_after x.number x.reply x.before x.after x.names) (live_places x.after) ≡ Some q → next ≤ q → HasTurn r t) → HasTurn r (x ∷ t)
step_has r n s names c x t start p true e h k at is le is_there ih = has_now r x t e
step_has r n s names c x t start p false e h k at is le is_there ih =
    let kx = keeps_here n s names c x h k in
    let born = among_born x.number r x.names (live_places x.before) p kx.born is in
    has_later r x t e (elim (effect_of x h.effect) [
      | inl holds ↦ (
          let on = ahead_on _ _ start _ p (still_after x.number x.reply x.before x.after x.names r start h.sound h.changes kx born) is le is_there is_there.at is_there.is in
          ih _ is_there.at (holds.stays start (h.from ∙ at)) is_there.is on)
      | inr goes ↦ (
          let same : start ≡ goes.at = cc (at, goes.stood, h.from) in
          let to = end_of_step x goes.at in
          let missed : (nat_le goes.at p && nat_lt p to) ≡ false = sym (search arith) ∙ e in
          let near : to ≤ p = grind (arith, nat_tests) in
          let on = ahead_on _ _ to _ p (still_after x.number x.reply x.before x.after x.names r to h.sound h.changes kx born) is near is_there is_there.at is_there.is in
          ih to is_there.at goes.is_there is_there.is (omega (arith, on, carry_by-own x.walk x.reply x.before x.after to goes.own)))
    ])

done_has : (r : RecordName) (n : ℕ) (s : Store) (names : List RecordName) (c : Option ℕ) (steps : Track) (done : WalkEvent) (later : Track) (last : Store) (start p : ℕ) → IsTrack n s names c (steps ++ done ∷ later) last → Keeps n s names → c ≡ Some start
    → place_among r names (live_places s) ≡ Some p → start ≤ p → AllByRecursion (λ x. IsSome (place_of r x)) steps → IsSome (place_of r done) → completes done.walk done.reply ≡ true → HasTurn r (steps ++ done ∷ later)
done_has r n s names c [] done later last start p h k at is le all some completed =
    let here = place_here r n s names c done h.0 ∙ is in
    let inside = any_lt (end_of done.before) p (live_places done.before) (lives_lt done.before.first done.before.cells h.0.sound) (among_any r done.names (live_places done.before) p here) in
    let passed : (nat_le start p && nat_lt p (end_of done.before)) ≡ true = grind (arith, nat_tests) in
    has_now r done later ((search arith) ∙ passed)
done_has r n s names c (x ∷ steps) done later last start p h k at is le all some completed =
    let is_there = place_next r (suc n) x.after _ x.to steps done later last h.1 all.1 some in
    step_has r n s names c x (steps ++ done ∷ later) start p (passes_record r x) refl h.0 k at (place_here r n s names c x h.0 ∙ is) le is_there
    (λ next q to there near. done_has r (suc n) x.after _ x.to steps done later last next q h.1 (keeps_next n s names c x h.0 k) to there near all.1 some completed)

throughout_once : (r : RecordName) (n : ℕ) (s : Store) (names : List RecordName) (c : Option ℕ) (t : Track) (last : Store) → IsTrack n s names c t last → Keeps n s names → IsAliveUntilDone r t → OneRow (rows_of r t)
throughout_once r n s names c t last h k a = search (arith, track_rest, keeps_rest, done_has, row_if_turn, comes, one_of_rest, at_most_one)

-- ---- cut before a step passed it
dead_none : (r : RecordName) (n : ℕ) (s : Store) (names : List RecordName) (c : Option ℕ) (t : Track) (last : Store) → IsTrack n s names c t last → Keeps n s names → r.birth < n → place_among r names (live_places s) ≡ None → turn_of r t ≡ None
dead_none r n s names c [] last h k lt dead = refl
dead_none r n s names c (x ∷ xs) last h k lt dead =
    let here = place_here r n s names c x h.0 ∙ dead in
    let kx = keeps_here n s names c x h.0 k in
    let still : place_among r (names_after x.number x.reply x.before x.after x.names) (live_places x.after) ≡ None =
    elim (still_after x.number x.reply x.before x.after x.names r 0 h.0.sound h.0.changes kx (omega (arith, h.0.number))) [ inl none ↦ none | inr stood ↦ cc (stood.was_at, here) ] in
    find_later (passes_record r) x xs (passes_none r x here) ∙ dead_none r (suc n) x.after _ x.to xs last h.1 (keeps_next n s names c x h.0 k) (omega arith) still

gone_by : (r : RecordName) (p : ℕ) (o : Option ℕ) (names : List RecordName) (ps : List ℕ) → (list_any (λ q. q == p) ps ≡ true → ⊥) → place_among r names ps ≡ o → (o ≡ None) ⊎ (o ≡ Some p) → o ≡ None
gone_by r p o names ps never is h = elim h [ inl none ↦ none | inr some ↦ absurd (never (among_any r names ps p (is ∙ some))) ]

cut_none : (r : RecordName) (n p : ℕ) (old new : Store) (names : List RecordName) → IsSound old → Cuts old new p → Keeps n old names → place_among r names (live_places old) ≡ Some p → place_among r (names_after n (Gone p) old new names) (live_places new) ≡ None
cut_none r n p old new names sound cuts k is =
    let i = cuts_insert old new p sound cuts in
    let after = names_after n (Gone p) old new names in
    let now = ap (λ (j : ℕ). place_among r (take j names ++ drop (suc j) names) (live_places new)) i.rank_is ∙ ap (place_among r (take (length i.front) names ++ drop (suc (length i.front)) names)) i.lo_is in
    let never : list_any (λ q. q == p) (live_places new) ≡ true → ⊥ = λ e. apart p i.front i.back i.less i.more (subst (λ (ps : List ℕ). list_any (λ q. q == p) ps ≡ true) i.lo_is e) in
    gone_by r p (place_among r after (live_places new)) after (live_places new) never refl
    (elim (among_remove r p i.front i.back names k.distinct (k.as_many ∙ ap length i.hi_is)) [
      | inl none ↦ inl (now ∙ none)
      | inr same ↦ inr (now ∙ same ∙ sym (ap (place_among r names) i.hi_is) ∙ is)
    ])

-- ---- added on the way
early_none : (r : RecordName) (n : ℕ) (s : Store) (names : List RecordName) (c : Option ℕ) (t : Track) (last : Store) → IsTrack n s names c t last → Keeps n s names → n + length t ≤ r.birth → turn_of r t ≡ None
early_none r n s names c [] last h k le = refl
early_none r n s names c (x ∷ t) last h k le = search (arith, keeps_here, find_later, passes_none, among_none, unborn, keeps_next, early_none r (suc n) x.after _ x.to t last h.1 (keeps_next n s names c x h.0 k) (omega arith))

among_self : (r nm : RecordName) (p : ℕ) (front back : List ℕ) (names : List RecordName) → is_name r nm ≡ true → list_any (is_name r) names ≡ false → length names ≡ length (front ++ back) → place_among r (take (length front) names ++ nm ∷ drop (length front) names) (front ++ p ∷ back) ≡ Some p
among_self r nm p [] back names own new e = ap (λ (b : Bool). cond b (Some p) (place_among r names back)) own
among_self r nm p (q ∷ front) back [] own new e = absurd (omega (arith, e))
among_self r nm p (q ∷ front) back (x ∷ names) own new e = search (arith, among_self r nm p front back names own)

put_is_at : (r : RecordName) (n : ℕ) (old new : Store) (names : List RecordName) → IsSound old → Puts old new r.place → Keeps n old names → r.birth ≡ n → place_among r (names_after n (Placed r.place) old new names) (live_places new) ≡ Some r.place
put_is_at r n old new names sound puts k born =
    let i = puts_insert old new r.place sound puts in
    let nm : RecordName = record { place = r.place; birth = n } in
    ap (λ (j : ℕ). place_among r (take j names ++ nm ∷ drop j names) (live_places new)) i.rank_is ∙ ap (place_among r (take (length i.front) names ++ nm ∷ drop (length i.front) names)) i.hi_is
    ∙ among_self r nm r.place i.front i.back names (search arith) (unborn n r names k.born (omega (arith, born))) (k.as_many ∙ ap length i.lo_is)

not_step : (w : ℕ) (content : ReplyContent) (p : ℕ) → content ≡ Placed p → (is_step_reply w content ≡ false) × (is_rewritten content ≡ false)
not_step w content p e = (ap (is_step_reply w) e, ap is_rewritten e)

behind_never : (r : RecordName) (at n : ℕ) (s : Store) (names : List RecordName) (c : Option ℕ) (t : Track) (last : Store) → IsTrack n s names c t last → Keeps n s names → (a : IsAddedAt r at t) → r.place < at → rows_of r t ≡ []
behind_never r at n s names c t last h k a lt =
    let x = a.put in
    let whole : IsTrack n s names c (a.earlier ++ x ∷ a.later) last = subst (λ (z : Track). IsTrack n s names c z last) a.track_is h in
    let rest = track_rest n s names c a.earlier (x ∷ a.later) last whole in
    let kept = keeps_rest n s names c a.earlier (x ∷ a.later) last whole k in
    let kx = keeps_here _ _ _ _ x rest.0 kept in
    let kn = keeps_next _ _ _ _ x rest.0 kept in
    let content = not_step x.walk x.reply r.place a.placed in
    let front = track_front n s names c a.earlier (x ∷ a.later) last whole in
    let first : rows_of r a.earlier ≡ [] = none_if r a.earlier (comes r n s names c a.earlier _ front k) (early_none r n s names c a.earlier _ front k (omega (arith, a.born, rest.0.number))) in
    let here : rows_here r x ≡ [] = search arith in
    let puts : Puts x.before x.after r.place = subst (λ (z : ReplyContent). Changes z x.before x.after) a.placed rest.0.changes in
    let is_there : place_among r (names_after x.number x.reply x.before x.after x.names) (live_places x.after) ≡ Some r.place =
    ap (λ (z : ReplyContent). place_among r (names_after x.number z x.before x.after x.names) (live_places x.after)) a.placed ∙ put_is_at r x.number x.before x.after x.names rest.0.sound puts kx a.born in
    let to : x.to ≡ Some at = elim (effect_of x rest.0.effect) [ inl holds ↦ holds.stays at a.cursor ∙ ap Some (carry_by-same x.reply x.before x.after at content.1) | inr goes ↦ cc (goes.own, content.0) ] in
    let none = behind_none r _ x.after _ x.to a.later last at rest.1 kn (omega (arith, a.born, rest.0.number)) to (λ q e. (let same : r.place ≡ q = cc (is_there, e) in omega arith)) in
    let later : rows_of r a.later ≡ [] = none_if r a.later (comes r _ x.after _ x.to a.later last rest.1 kn) none in
    ap (rows_of r) a.track_is ∙ flat_map-append (rows_here r) a.earlier (x ∷ a.later) ∙ ap (λ (rows : List Row). rows ++ (rows_here r x ++ rows_of r a.later)) first ∙ ap (λ (rows : List Row). rows ++ rows_of r a.later) here ∙ later

ahead_of : (r : RecordName) (at n : ℕ) (s : Store) (names : List RecordName) (c : Option ℕ) (t : Track) (last : Store) → IsTrack n s names c t last → Keeps n s names → IsAddedAt r at t → OneRow (rows_of r t) → at ≤ r.place
ahead_of r at n s names c t last h k a one = elim (le_or r.place at (nat_lt r.place at) refl) [
  | inl lt ↦ cc (behind_never r at n s names c t last h k a lt, one.only)
  | inr le ↦ le
]

-- ---- all of them
pub each_comes : (first : Store) (start : Option ℕ) (t : Track) (last : Store) → IsWalk first start t last → EachComesAsDue t
each_comes first start t last walk =
    let k = first_keeps first walk.sound in
    let names = first_names first in
    let c : (r : RecordName) → Comes r t = λ r. comes r 1 first names start t last walk.is k in
    record {
      at_most_once = λ r. at_most_one r t (c r);
      turn_is_unique = λ r. one_turn r 1 first names start t last walk.is k;
      in_file_order = λ p q a. in_order p q 1 first names start t last walk.is k a;
      once_if_it_has_a_turn = λ r. (turn_if_row r t (c r), row_if_turn r t (c r));
      throughout_once = λ r a. throughout_once r 1 first names start t last walk.is k a;
      cut_before_never = λ r a. search (arith, track_rest, keeps_rest, keeps_here, keeps_next, cut_none, among_born, dead_none, none_if, comes, split_at, track_front, flat_map-append);
      added_if_ahead = λ r at a. (λ one. (ahead_of r at 1 first names start t last walk.is k a one, turn_if_row r t (c r) one), λ both. row_if_turn r t (c r) both.1);
    }
