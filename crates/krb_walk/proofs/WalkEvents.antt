-- What one event does to a walk's cursor, and what it gives.
use Rattle.krb_walk.proofs.Cited.{◌≡◌, ℕ, true, false, List, [], Option, Some, inl, inr, refl, sym, ap, ◌∙◌, subst, arith, ◌⊎◌, IsSomeAnd, nat_tests, Store, end_of, next_live, ReplyContent, is_step_reply, is_rewritten, stop_cursor, rows_of_reply, RecordName, WalkEvent, carry_by, AnswersStep, Stays, MovesCursor, IsWalkEvent, rows_at_event, CursorIsSound, CursorMayGo, Bool, cond, find, Track, ◌∷◌}
use Rattle.krb_walk.proofs.Cells.{rows_of_next}
use Rattle.krb_walk.proofs.Places.{stop_forward}

-- the first event that passes a test comes after one that fails it
pub find_later : (f : WalkEvent → Bool) (x : WalkEvent) (xs : Track) → f x ≡ false → find f (x ∷ xs) ≡ find f xs
find_later f x xs e = ap (λ (b : Bool). cond {A = Option WalkEvent} b (Some x) (find f xs)) e

pub find_first : (f : WalkEvent → Bool) (x : WalkEvent) (xs : Track) → f x ≡ true → find f (x ∷ xs) ≡ Some x
find_first f x xs e = ap (λ (b : Bool). cond {A = Option WalkEvent} b (Some x) (find f xs)) e

-- the place that a step from a place leads to
abbrev pub end_of_step : WalkEvent → ℕ → ℕ
end_of_step x at = stop_cursor (end_of x.before) (next_live x.before at)

-- an event that is no step gives no row, and a step gives the row of the next live cell
pub record Holds (x : WalkEvent) : Type 0 where
  pub idle : x.stepped ≡ false
  pub other : is_step_reply x.walk x.reply ≡ false
  pub stays : (d : ℕ) → x.from ≡ Some d → x.to ≡ Some (carry_by x.reply x.before x.after d)
  pub silent : rows_at_event x ≡ []

pub record Advances (x : WalkEvent) : Type 0 where
  pub stepped : x.stepped ≡ true
  pub at : ℕ
  pub stood : x.from ≡ Some at
  pub is_there : x.to ≡ Some (end_of_step x at)
  pub same_rows : rows_at_event x ≡ rows_of_next x.number (next_live x.before at)
  pub answered : AnswersStep x.before x.walk at x.reply (end_of_step x at)
  pub own : is_step_reply x.walk x.reply ≡ true

-- what holds of a step with its reply
record Answered (s : Store) (w c : ℕ) (content : ReplyContent) (to : ℕ) : Type 0 where
  leads : to ≡ stop_cursor (end_of s) (next_live s c)
  same_rows : (n : ℕ) → rows_of_reply w n content ≡ rows_of_next n (next_live s c)
  own : is_step_reply w content ≡ true

answered : (s : Store) (w c : ℕ) (content : ReplyContent) (to : ℕ) → AnswersStep s w c content to → Answered s w c content to
answered s w c content to a = search arith

pub effect_of : (x : WalkEvent) → Stays x ⊎ MovesCursor x → Holds x ⊎ Advances x
effect_of x effect = grind (arith, nat_tests)

-- without an accepted rewrite, a cursor is not carried
pub carry_by-same : (content : ReplyContent) (old new : Store) (c : ℕ) → is_rewritten content ≡ false → carry_by content old new c ≡ c
carry_by-same content old new c e = search arith

-- at a step, a cursor is not carried
pub carry_by-own : (w : ℕ) (content : ReplyContent) (old new : Store) (c : ℕ) → is_step_reply w content ≡ true → carry_by content old new c ≡ c
carry_by-own w content old new c e = grind (arith, nat_tests)

pub stays_put : (x : WalkEvent) (d : ℕ) → Holds x → is_rewritten x.reply ≡ false → x.from ≡ Some d → x.to ≡ Some d
stays_put x d holds put_by at = holds.stays d at ∙ ap Some (carry_by-same x.reply x.before x.after d put_by)

-- a cursor is a place, and moves as it may
pub cursor_is_sound : (n : ℕ) (s : Store) (names : List RecordName) (c : Option ℕ) (x : WalkEvent) (d : ℕ) → IsWalkEvent n s names c x → x.from ≡ Some d → CursorIsSound x d
cursor_is_sound n s names c x d h at = elim (effect_of x h.effect) [
  | inl holds ↦ record {
    place = h.here d at;
    to = subst (λ (o : Option ℕ). IsSomeAnd o (CursorMayGo x d)) (sym (holds.stays d at)) (record { forward = λ put_by. omega (arith, carry_by-same x.reply x.before x.after d put_by); moves = λ own. cc (own, holds.idle); stays = λ other. refl });
  }
  | inr goes ↦ (
      let same : goes.at ≡ d = cc (at, goes.stood) in
      record {
        place = h.here d at;
        to = subst (λ (o : Option ℕ). IsSomeAnd o (CursorMayGo x d)) (sym goes.is_there) (record {
          forward = λ _. omega (arith, stop_forward x.before goes.at (h.here goes.at goes.stood), same);
          moves = λ own. subst (λ (m : ℕ). AnswersStep x.before x.walk m x.reply (end_of_step x goes.at)) same goes.answered;
          stays = λ other. cc (other, goes.stepped);
        });
      })
]
