-- A record comes iff a step passes it at its place.
use Rattle.krb_walk.proofs.Cited.{◌≡◌, ℕ, suc, ◌<◌, ◌≤◌, Bool, true, false, List, [], ◌∷◌, length, Option, Some, None, inl, inr, refl, sym, ap, ◌∙◌, subst, arith, ◌&&◌, ◌==◌, ◌⊎◌, nat_le, nat_lt, list_any, option_to_list, nat_tests, Store, Record, live_at, live_places, Row, RecordName, WalkEvent, Track, names_after, carry_by, IsWalkEvent, IsTrack, row_of, rows_at_event, rows_at, OneRow, place_among, place_of, rows_at_some, rows_here, rows_of, goes_past_some, passes_record, turn_of, HasTurn, ◌+◌, ◌++◌, append_assoc, last_names, last_cursor}
use Rattle.krb_walk.proofs.Places.{stop_forward}
use Rattle.krb_walk.proofs.WalkEvents.{find_later, end_of_step, Advances, effect_of}
use Rattle.krb_walk.proofs.Names.{AreBorn, in_lives}
use Rattle.krb_walk.proofs.StepRows.{step_at}
use Rattle.krb_walk.proofs.Carries.{le_or}
use Rattle.krb_walk.proofs.Ranked.{Keeps, keeps_after, Still, still_after}

-- a record that has a place is at a live cell, and is born
pub among_any : (r : RecordName) (names : List RecordName) (ps : List ℕ) (p : ℕ) → place_among r names ps ≡ Some p → list_any (λ x. x == p) ps ≡ true
among_any r [] ps p e = cc
among_any r (x ∷ names) [] p e = cc
among_any r (x ∷ names) (q ∷ ps) p e = grind (arith, nat_tests, among_any r names ps p)

pub among_born : (n : ℕ) (r : RecordName) (names : List RecordName) (ps : List ℕ) (p : ℕ) → AreBorn n names → place_among r names ps ≡ Some p → r.birth < n
among_born n r [] ps p h e = cc
among_born n r (x ∷ names) [] p h e = cc
among_born n r (x ∷ names) (q ∷ ps) p h e = search (arith, among_born n r names ps p h.1)

-- the names at an event
pub keeps_here : (n : ℕ) (s : Store) (names : List RecordName) (c : Option ℕ) (x : WalkEvent) → IsWalkEvent n s names c x → Keeps n s names → Keeps x.number x.before x.names
keeps_here n s names c x h k = search arith

pub keeps_next : (n : ℕ) (s : Store) (names : List RecordName) (c : Option ℕ) (x : WalkEvent) → IsWalkEvent n s names c x → Keeps n s names → Keeps (suc n) x.after (names_after x.number x.reply x.before x.after x.names)
keeps_next n s names c x h k =
    subst (λ (m : ℕ). Keeps (suc m) x.after (names_after x.number x.reply x.before x.after x.names)) h.number
    (keeps_after x.number x.reply x.before x.after x.names h.sound h.changes (keeps_here n s names c x h k))

pub place_here : (r : RecordName) (n : ℕ) (s : Store) (names : List RecordName) (c : Option ℕ) (x : WalkEvent) → IsWalkEvent n s names c x → place_of r x ≡ place_among r names (live_places s)
place_here r n s names c x h = ap (λ (l : List RecordName). place_among r l (live_places x.before)) h.names ∙ ap (λ (z : Store). place_among r names (live_places z)) h.before

-- an event that is no step passes no record
passes_other : (r : RecordName) (x : WalkEvent) → x.stepped ≡ false → passes_record r x ≡ false
passes_other r x e = ap (λ (b : Bool). b && goes_past_some (place_of r x) x.from x.to) e

pub passes_none : (r : RecordName) (x : WalkEvent) → place_of r x ≡ None → passes_record r x ≡ false
passes_none r x e = search arith

-- a record before a cursor stays before it, so it has no turn
abbrev pub IsBehind : RecordName → List RecordName → Store → ℕ → Type 0
IsBehind r names s d = (q : ℕ) → place_among r names (live_places s) ≡ Some q → q < d

behind_on : (was is : Option ℕ) (c d q : ℕ) → (is ≡ None) ⊎ Still was is c d → ((p : ℕ) → was ≡ Some p → p < c) → is ≡ Some q → q < d
behind_on was is c d q h b e = search (arith, le_or)

behind_next : (r : RecordName) (n : ℕ) (s : Store) (names : List RecordName) (o : Option ℕ) (x : WalkEvent) (c : ℕ) → IsWalkEvent n s names o x → Keeps n s names → r.birth < n → ((p : ℕ) → place_of r x ≡ Some p → p < c)
    → IsBehind r (names_after x.number x.reply x.before x.after x.names) x.after (carry_by x.reply x.before x.after c)
behind_next r n s names o x c h k lt b = λ q e. behind_on (place_of r x) _ c _ q (still_after x.number x.reply x.before x.after x.names r c h.sound h.changes (keeps_here n s names o x h k) (omega (arith, h.number))) b e

-- a record is before the cursor after an event
pub record StaysBehind (r : RecordName) (x : WalkEvent) : Type 0 where
  pub to : ℕ
  pub is : x.to ≡ Some to
  pub behind : IsBehind r (names_after x.number x.reply x.before x.after x.names) x.after to

pub behind_event : (r : RecordName) (n : ℕ) (s : Store) (names : List RecordName) (c : Option ℕ) (x : WalkEvent) (d : ℕ) → IsWalkEvent n s names c x → Keeps n s names → r.birth < n → c ≡ Some d → IsBehind r names s d → StaysBehind r x
behind_event r n s names c x d h k lt at b =
    let here = place_here r n s names c x h in
    let bx : (p : ℕ) → place_of r x ≡ Some p → p < d = λ p e. b p (sym here ∙ e) in
    elim (effect_of x h.effect) [
      | inl holds ↦ record { to = _; is = holds.stays d (h.from ∙ at); behind = behind_next r n s names c x d h k lt bx }
      | inr goes ↦ (
          let same : d ≡ goes.at = cc (at, goes.stood, h.from) in
          let forward = stop_forward x.before goes.at (h.here goes.at goes.stood) in
          (grind (arith, nat_tests)))
    ]

pub behind_none : (r : RecordName) (n : ℕ) (s : Store) (names : List RecordName) (c : Option ℕ) (t : Track) (last : Store) (d : ℕ) → IsTrack n s names c t last → Keeps n s names → r.birth < n → c ≡ Some d → IsBehind r names s d → turn_of r t ≡ None
behind_none r n s names c [] last d h k lt at b = refl
behind_none r n s names c (x ∷ xs) last d h k lt at b =
    let on = behind_event r n s names c x d h.0 k lt at b in
    find_later (passes_record r) x xs (grind (arith, nat_tests)) ∙ behind_none r (suc n) x.after _ x.to xs last on.to h.1 (keeps_next n s names c x h.0 k) (omega arith) on.is on.behind

-- the rows of a record at an event
here_some : (r : RecordName) (x : WalkEvent) (p : ℕ) → place_of r x ≡ Some p → rows_here r x ≡ rows_at p (rows_at_event x)
here_some r x p e = ap (λ (o : Option ℕ). rows_at_some o (rows_at_event x)) e

one_found : (n : ℕ) (found : Option Record) (held : Record) (rows : List Row) → found ≡ Some held → rows ≡ option_to_list (row_of n found) → OneRow rows
one_found n found held rows is e = record { row = record { event = n; stood = held }; only = e ∙ ap (λ (o : Option Record). option_to_list (row_of n o)) is }

-- ---- a record has no turn and no row, or a turn and one row
abbrev pub Comes : RecordName → Track → Type 0
Comes r t = ((turn_of r t ≡ None) × (rows_of r t ≡ [])) ⊎ (HasTurn r t × OneRow (rows_of r t))

comes_now : (r : RecordName) (x : WalkEvent) (xs : Track) → passes_record r x ≡ true → OneRow (rows_here r x) → turn_of r xs ≡ None → Comes r xs → Comes r (x ∷ xs)
comes_now r x xs e here none c = grind (arith, nat_tests)

-- a record that is passed is before the cursor from then on, so it is not passed again
pub record IsPassed (r : RecordName) (n : ℕ) (x : WalkEvent) : Type 0 where
  pub born : r.birth < n
  pub on : StaysBehind r x

pub passed : (r : RecordName) (n : ℕ) (s : Store) (names : List RecordName) (c : Option ℕ) (x : WalkEvent) → IsWalkEvent n s names c x → Keeps n s names → passes_record r x ≡ true → IsPassed r n x
passed r n s names c x h k e = search (arith, effect_of, passes_other, passes_none, keeps_here, among_born)

pub passed_once : (r : RecordName) (n : ℕ) (s : Store) (names : List RecordName) (c : Option ℕ) (x : WalkEvent) (xs : Track) (last : Store) → IsTrack n s names c (x ∷ xs) last → Keeps n s names → passes_record r x ≡ true → turn_of r xs ≡ None
passed_once r n s names c x xs last h k e =
    let was = passed r n s names c x h.0 k e in
    behind_none r (suc n) x.after _ x.to xs last was.on.to h.1 (keeps_next n s names c x h.0 k) (omega (arith, was.born)) was.on.is was.on.behind

comes_at : (r : RecordName) (n : ℕ) (s : Store) (names : List RecordName) (c : Option ℕ) (x : WalkEvent) (xs : Track) (last : Store) (g : Advances x) (p : ℕ) (b : Bool) → IsTrack n s names c (x ∷ xs) last → Keeps n s names → place_of r x ≡ Some p
    → (nat_le g.at p && nat_lt p (end_of_step x g.at)) ≡ b → Comes r xs → Comes r (x ∷ xs)
comes_at r n s names c x xs last g p true h k is e ih =
    let held = in_lives x.before.first p x.before.cells h.0.sound (among_any r x.names (live_places x.before) p is) in
    let rows = here_some r x p is ∙ ap (rows_at p) g.same_rows ∙ step_at x.number x.before g.at p true h.0.sound (h.0.here g.at g.stood) e in
    let now = search arith ∙ e in
    comes_now r x xs now (one_found x.number (live_at x.before p) held.held (rows_here r x) held.is rows) (passed_once r n s names c x xs last h k now) ih
comes_at r n s names c x xs last g p false h k is e ih = search (arith, here_some, step_at)

comes_go : (r : RecordName) (n : ℕ) (s : Store) (names : List RecordName) (c : Option ℕ) (x : WalkEvent) (xs : Track) (last : Store) (g : Advances x) (o : Option ℕ) → IsTrack n s names c (x ∷ xs) last → Keeps n s names → place_of r x ≡ o → Comes r xs → Comes r (x ∷ xs)
comes_go r n s names c x xs last g o h k is ih = search (arith, passes_none, comes_at)

pub comes : (r : RecordName) (n : ℕ) (s : Store) (names : List RecordName) (c : Option ℕ) (t : Track) (last : Store) → IsTrack n s names c t last → Keeps n s names → Comes r t
comes r n s names c [] last h k = inl (refl, refl)
comes r n s names c (x ∷ xs) last h k =
    let ih = comes r (suc n) x.after _ x.to xs last h.1 (keeps_next n s names c x h.0 k) in
    elim (effect_of x h.0.effect) [
      | inl holds ↦ grind (arith, nat_tests)
      | inr goes ↦ comes_go r n s names c x xs last goes (place_of r x) h k refl ih
    ]

-- ---- at most one row, and one exactly with a turn
pub at_most_one : (r : RecordName) (t : Track) → Comes r t → length (rows_of r t) ≤ 1
at_most_one r t c = elim c [ inl none ↦ omega (arith, ap length none.1) | inr one ↦ omega (arith, ap length one.1.only) ]

pub turn_if_row : (r : RecordName) (t : Track) → Comes r t → OneRow (rows_of r t) → HasTurn r t
turn_if_row r t c one = elim c [ inl none ↦ cc (none.1, one.only) | inr has ↦ has.0 ]

pub row_if_turn : (r : RecordName) (t : Track) → Comes r t → HasTurn r t → OneRow (rows_of r t)
row_if_turn r t c turn = elim c [ inl none ↦ cc (none.0, turn.is) | inr has ↦ has.1 ]

pub none_if : (r : RecordName) (t : Track) → Comes r t → turn_of r t ≡ None → rows_of r t ≡ []
none_if r t c e = elim c [ inl none ↦ none.1 | inr has ↦ cc (has.0.is, e) ]

-- ---- the parts of a track
abbrev pub store_at_end : Store → Track → Store
store_at_end s [] = s
store_at_end s (x ∷ xs) = store_at_end x.after xs

pub track_rest : (n : ℕ) (s : Store) (names : List RecordName) (c : Option ℕ) (t u : Track) (last : Store) → IsTrack n s names c (t ++ u) last → IsTrack (n + length t) (store_at_end s t) (last_names names t) (last_cursor c t) u last
track_rest n s names c [] u last h = let e : n ≡ n + 0 = omega arith in subst (λ (m : ℕ). IsTrack m s names c u last) e h
track_rest n s names c (x ∷ xs) u last h = search (arith, track_rest (suc n) x.after _ x.to xs u last h.1)

pub track_front : (n : ℕ) (s : Store) (names : List RecordName) (c : Option ℕ) (t u : Track) (last : Store) → IsTrack n s names c (t ++ u) last → IsTrack n s names c t (store_at_end s t)
track_front n s names c [] u last h = refl
track_front n s names c (x ∷ xs) u last h = (h.0, track_front (suc n) x.after _ x.to xs u last h.1)

pub keeps_rest : (n : ℕ) (s : Store) (names : List RecordName) (c : Option ℕ) (t u : Track) (last : Store) → IsTrack n s names c (t ++ u) last → Keeps n s names → Keeps (n + length t) (store_at_end s t) (last_names names t)
keeps_rest n s names c [] u last h k = let e : n ≡ n + 0 = omega arith in subst (λ (m : ℕ). Keeps m s names) e k
keeps_rest n s names c (x ∷ xs) u last h k = grind (arith, nat_tests, keeps_rest (suc n) x.after _ x.to xs u last h.1 (keeps_next n s names c x h.0 k))

pub split_at : (t : Track) (x : WalkEvent) (u : Track) → (t ++ x ∷ []) ++ u ≡ t ++ x ∷ u
split_at t x u = append_assoc t (x ∷ []) u
