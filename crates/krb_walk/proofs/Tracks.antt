-- What a walk is given over its track is what is due to it.
use Rattle.krb_walk.proofs.Cited.{passes, ◌≡◌, ℕ, suc, ◌+◌, ◌<◌, Bool, true, false, cond, List, [], ◌∷◌, ◌++◌, length, Option, Some, None, inl, inr, refl, sym, ap, ◌∙◌, subst, arith, ◌&&◌, nat_le, nat_lt, filter_map, append-nil, nat_tests, Store, end_of, is_place, IsSound, next_live, live_at, stop_cursor, Row, RecordName, WalkEvent, Track, PlacesStay, goes_past, last_names, last_cursor, IsWalkEvent, IsTrack, rows_at_event, given_over, turn, row_of, row_at_turn, due_over, rows_between, due_at_event, due_by_steps}
use Rattle.krb_walk.proofs.Cells.{rows_of_next, StepsRows, step_gives, spots, places_spots, same_from}
use Rattle.krb_walk.proofs.Places.{Extends, extends_on, stop_forward, widths}
use Rattle.krb_walk.proofs.Effects.{same_extends, changes-extends}
use Rattle.krb_walk.proofs.WalkEvents.{find_later, find_first, end_of_step, Advances, effect_of, stays_put}

-- a cursor that does not move passes no place
past_none : (p : ℕ) (o q : Option ℕ) → ((d : ℕ) → o ≡ Some d → q ≡ Some d) → goes_past p o q ≡ false
past_none p o q h = grind (arith, nat_tests)

pub past_by : (p c d : ℕ) (o q : Option ℕ) → o ≡ Some c → q ≡ Some d → goes_past p o q ≡ (nat_le c p && nat_lt p d)
past_by p c d o q is_c is_d = ap (λ (x : Option ℕ). goes_past p x q) is_c ∙ ap (goes_past p (Some c)) is_d

none_due : (ps : List ℕ) → filter_map {X = ℕ} {Y = Row} (λ p. None) ps ≡ []
none_due [] = refl
none_due (p ∷ ps) = none_due ps

-- one track after another is a track
pub tracks_join : (n : ℕ) (s : Store) (names : List RecordName) (c : Option ℕ) (t u : Track) (mid last : Store) → IsTrack n s names c t mid → IsTrack (n + length t) mid (last_names names t) (last_cursor c t) u last → IsTrack n s names c (t ++ u) last
tracks_join n s names c [] u mid last h k = search arith
tracks_join n s names c (x ∷ xs) u mid last h k = search (arith, tracks_join (suc n) x.after _ x.to xs u mid last h.1)

track_extends : (n : ℕ) (s : Store) (names : List RecordName) (c : Option ℕ) (t : Track) (last : Store) → PlacesStay t → IsTrack n s names c t last → Extends s last
track_extends n s names c [] last k h = same_extends s last h
track_extends n s names c (x ∷ xs) last k h = extends_on s x.after last (subst (λ (z : Store). Extends z x.after) h.0.before (changes-extends x.reply x.before x.after k.0 h.0.changes)) (track_extends (suc n) x.after _ x.to xs last k.1 h.1)

-- no place before the cursor has a turn
pub behind_none : (p n : ℕ) (s : Store) (names : List RecordName) (c : Option ℕ) (t : Track) (last : Store) (d : ℕ) → PlacesStay t → IsTrack n s names c t last → c ≡ Some d → p < d → turn p t ≡ None
behind_none p n s names c [] last d k h at lt = refl
behind_none p n s names c (x ∷ xs) last d k h at lt = elim (effect_of x h.0.effect) [
  | inl holds ↦ find_later (passes p) x xs (past_none p _ _ (λ e. stays_put x e holds k.0)) ∙ behind_none p (suc n) x.after _ x.to xs last d k.1 h.1 (stays_put x d holds k.0 (h.0.from ∙ at)) lt
  | inr goes ↦ (
      let same : d ≡ goes.at = cc (at, goes.stood, h.0.from) in
      let forward = stop_forward x.before goes.at (h.0.here goes.at goes.stood) in
      let misses : (nat_le goes.at p && nat_lt p (end_of_step x goes.at)) ≡ false = grind (arith, nat_tests) in
      find_later (passes p) x xs (past_by p _ _ _ _ goes.stood goes.is_there ∙ misses) ∙ behind_none p (suc n) x.after _ x.to xs last (end_of_step x goes.at) k.1 h.1 goes.is_there (omega arith))
]

steps_rows : (n : ℕ) (s : Store) (names : List RecordName) (c : Option ℕ) (x : WalkEvent) (xs : Track) (last : Store) → PlacesStay xs → IsTrack n s names c (x ∷ xs) last → (g : Advances x)
    → StepsRows (λ p. row_at_turn p (turn p (x ∷ xs))) (λ p. row_at_turn p (turn p xs)) x.number g.at (end_of_step x g.at) (live_at x.before)
steps_rows n s names c x xs last k h g =
    let at = g.at in
    let to = end_of_step x g.at in
    let none = λ (p : ℕ) (lt : p < to). behind_none p (suc n) x.after _ x.to xs last to k h.1 g.is_there lt in
    record {
      forward = stop_forward x.before at (h.0.here at g.stood);
      passed = λ p le lt. (
          let yes : (nat_le at p && nat_lt p to) ≡ true = grind (arith, nat_tests) in
          ap (row_at_turn p) (find_first (passes p) x xs (past_by p at to _ _ g.stood g.is_there ∙ yes)));
      behind = λ p lt. (
          let forward = stop_forward x.before at (h.0.here at g.stood) in
          let misses : (nat_le at p && nat_lt p to) ≡ false = grind (arith, nat_tests) in
          ap (row_at_turn p) (find_later (passes p) x xs (past_by p at to _ _ g.stood g.is_there ∙ misses) ∙ none p (omega arith)));
      ahead = λ p le. (
          let misses : (nat_le at p && nat_lt p to) ≡ false = grind (arith, nat_tests) in
          ap (row_at_turn p) (find_later (passes p) x xs (past_by p at to _ _ g.stood g.is_there ∙ misses)));
      none = λ p lt. ap (row_at_turn p) (none p lt);
    }

given_spots : (n : ℕ) (s : Store) (names : List RecordName) (c : Option ℕ) (t : Track) (last : Store) → PlacesStay t → IsTrack n s names c t last → given_over t ≡ filter_map (λ p. row_at_turn p (turn p t)) (spots last.first (widths last.cells))
given_spots n s names c [] last k h = sym (none_due (spots last.first (widths last.cells)))
given_spots n s names c (x ∷ xs) last k h =
    let ih = given_spots (suc n) x.after _ x.to xs last k.1 h.1 in
    let f : ℕ → Option Row = λ p. row_at_turn p (turn p (x ∷ xs)) in
    let g : ℕ → Option Row = λ p. row_at_turn p (turn p xs) in
    elim (effect_of x h.0.effect) [
      | inl holds ↦ (
          ap (λ (rows : List Row). rows ++ given_over xs) holds.silent ∙ ih
          ∙ sym (same_from f g last.first (widths last.cells) (λ p _. ap (row_at_turn p) (find_later (passes p) x xs (past_none p _ _ (λ e. stays_put x e holds k.0))))))
      | inr goes ↦ (
          let grows = extends_on x.before x.after last (changes-extends x.reply x.before x.after k.0 h.0.changes) (track_extends (suc n) x.after _ x.to xs last k.1 h.1) in
          let same : spots last.first (widths last.cells) ≡ spots x.before.first (widths x.before.cells ++ grows.more) = ap (λ (at : ℕ). spots at (widths last.cells)) grows.first ∙ ap (spots x.before.first) grows.widths_are in
          let steps = step_gives f g x.number goes.at _ x.before.first x.before.cells grows.more (live_at x.before) (steps_rows n s names c x xs last k.1 h goes) h.0.sound (λ p le. refl) refl in
          ap (λ (rows : List Row). rows ++ given_over xs) goes.same_rows
          ∙ ap (λ (rows : List Row). rows_of_next x.number (next_live x.before goes.at) ++ rows) ih
          ∙ ap (λ (ps : List ℕ). rows_of_next x.number (next_live x.before goes.at) ++ filter_map g ps) same
          ∙ sym steps
          ∙ sym (ap (filter_map f) same))
    ]

-- what a track gives is what is due over it, if no event rewrites the store
pub track_gives : (n : ℕ) (s : Store) (names : List RecordName) (c : Option ℕ) (t : Track) (last : Store) → PlacesStay t → IsTrack n s names c t last → given_over t ≡ due_over t last
track_gives n s names c t last k h = given_spots n s names c t last k h ∙ sym (ap (filter_map (λ p. row_at_turn p (turn p t))) (places_spots last.first last.cells))

-- what a step passes
pub between : (s : Store) (n c : ℕ) → IsSound s → is_place s c ≡ true → rows_between n s (Some c) (Some (stop_cursor (end_of s) (next_live s c))) ≡ rows_of_next n (next_live s c)
between s n c sound here =
    let to = stop_cursor (end_of s) (next_live s c) in
    let f : ℕ → Option Row = λ p. cond (nat_le c p && nat_lt p to) (row_of n (live_at s p)) None in
    let steps : StepsRows f (λ p. None) n c to (live_at s) = record {
      forward = stop_forward s c here;
      passed = λ p le lt. (let inside : (nat_le c p && nat_lt p to) ≡ true = grind (arith, nat_tests) in rw inside refl);
      behind = λ p lt. (let misses : (nat_le c p && nat_lt p to) ≡ false = grind (arith, nat_tests) in rw misses refl);
      ahead = λ p le. (let misses : (nat_le c p && nat_lt p to) ≡ false = grind (arith, nat_tests) in rw misses refl);
      none = λ p lt. refl;
    } in
    let gives = step_gives f (λ p. None) n c to s.first s.cells [] (live_at s) steps sound (λ p le. refl) refl in
    ap (filter_map f) (places_spots s.first s.cells ∙ ap (spots s.first) (sym (append-nil (widths s.cells)))) ∙ gives
    ∙ ap (λ (rows : List Row). rows_of_next n (next_live s c) ++ rows) (none_due (spots s.first (widths s.cells ++ []))) ∙ append-nil (rows_of_next n (next_live s c))

-- an event gives what is due at it
event_gives : (n : ℕ) (s : Store) (names : List RecordName) (c : Option ℕ) (x : WalkEvent) → IsWalkEvent n s names c x → rows_at_event x ≡ due_at_event x
event_gives n s names c x h = elim (effect_of x h.effect) [
  | inl holds ↦ holds.silent ∙ sym (ap (λ (b : Bool). cond {A = List Row} b (rows_between x.number x.before x.from x.to) []) holds.idle)
  | inr goes ↦ (
      let due : rows_between x.number x.before x.from x.to ≡ rows_of_next x.number (next_live x.before goes.at) =
      ap (λ (o : Option ℕ). rows_between x.number x.before o x.to) goes.stood ∙ ap (rows_between x.number x.before (Some goes.at)) goes.is_there ∙ between x.before x.number goes.at h.sound (h.here goes.at goes.stood) in
      goes.same_rows ∙ sym due ∙ sym (ap (λ (b : Bool). cond {A = List Row} b (rows_between x.number x.before x.from x.to) []) goes.stepped))
]

-- what a track gives is due step by step
pub track_gives_by_steps : (n : ℕ) (s : Store) (names : List RecordName) (c : Option ℕ) (t : Track) (last : Store) → IsTrack n s names c t last → given_over t ≡ due_by_steps t
track_gives_by_steps n s names c [] last h = refl
track_gives_by_steps n s names c (x ∷ xs) last h = ap (λ (rows : List Row). rows ++ given_over xs) (event_gives n s names c x h.0) ∙ ap (λ (rows : List Row). due_at_event x ++ rows) (track_gives_by_steps (suc n) x.after _ x.to xs last h.1)
