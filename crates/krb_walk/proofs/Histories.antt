-- The track of a walk over a history.
use Rattle.krb_walk.proofs.Cited.{◌≡◌, ℕ, suc, true, false, List, [], ◌∷◌, Option, Some, None, inl, inr, refl, ap, sym, subst, slice_get, IsSomeAnd, option_or, Event, Store, is_place, ReplyContent, is_rewritten, Rules, SessionState, after, reply_to, store_after, cursors_after, IsReady, AllLawful, history, state_after, RecordName, track_on, carry_by, AnswersStep, IsTrack, arith, nat_tests}
use Rattle.krb_walk.proofs.Places.{place_kept}
use Rattle.krb_walk.proofs.Effects.{ready_after, effect, changes-extends}

-- if the event starts the walk, it starts at c, and until then no event rewrites the store
pub record Fits {S I : Type 0} (c : Option ℕ) (r : Rules S I) (w : ℕ) (s : SessionState S) (e : Event I) : Type 0 where
  pub made : (d a : ℕ) → c ≡ Some d → slice_get s.cursors w ≡ None → slice_get (cursors_after r s e) w ≡ Some a → a ≡ d
  pub plain : (d : ℕ) → c ≡ Some d → slice_get s.cursors w ≡ None → is_rewritten (reply_to r s e) ≡ false

abbrev pub MadeAt : {S I : Type 0} → Option ℕ → Rules S I → ℕ → SessionState S → List (Event I) → Type 0
MadeAt c r w s [] = Unit {0}
MadeAt c r w s (e ∷ es) = Fits c r w s e × MadeAt c r w (after r s e) es

pub made_none : {S I : Type 0} (r : Rules S I) (w : ℕ) (s : SessionState S) (es : List (Event I)) → MadeAt None r w s es
made_none r w s [] = tt
made_none r w s (e ∷ es) = (record { made = λ d a is. cc; plain = λ d is. cc }, made_none r w (after r s e) es)

stays_on : (content : ReplyContent) (old new : Store) (c o q : Option ℕ) → ((d : ℕ) → o ≡ Some d → q ≡ Some (carry_by content old new d)) → ((d a : ℕ) → c ≡ Some d → o ≡ None → q ≡ Some a → a ≡ d) → ((d : ℕ) → c ≡ Some d → o ≡ None → is_rewritten content ≡ false)
    → (d : ℕ) → option_or o c ≡ Some d → option_or q c ≡ Some (carry_by content old new d)
stays_on content old new c o q stays made plain d h = grind (arith, nat_tests)

places_on : {S I : Type 0} (r : Rules S I) (s : SessionState S) (c o : Option ℕ) → ((d : ℕ) → o ≡ Some d → is_place (r.seen s.store) d ≡ true) → ((d : ℕ) → c ≡ Some d → o ≡ None → is_place (r.seen s.store) d ≡ true) → (d : ℕ) → option_or o c ≡ Some d → is_place (r.seen s.store) d ≡ true
places_on r s c o all made d h = search arith

-- a walk that does not exist after an event did not exist before it
not_made : {S I : Type 0} (r : Rules S I) (s : SessionState S) (e : Event I) (w : ℕ) (o : Option ℕ) → slice_get s.cursors w ≡ o → slice_get (cursors_after r s e) w ≡ None → o ≡ None
not_made r s e w None is none = refl
not_made r s e w (Some d) is none = elim (effect r s e w) [ inl still ↦ cc (still.stays d is, none) | inr moves ↦ cc (moves.is_there, none) ]

pub track_is : {S I : Type 0} (r : Rules S I) (s : SessionState S) (es : List (Event I)) (n w : ℕ) (names : List RecordName) (c : Option ℕ) → IsReady r s → AllLawful r (history r s es) → MadeAt c r w s es → ((d : ℕ) → c ≡ Some d → slice_get s.cursors w ≡ None → is_place (r.seen s.store) d ≡ true)
    → IsTrack n (r.seen s.store) names (option_or (slice_get s.cursors w) c) (track_on n names c r w (history r s es)) (r.seen (state_after r s es).store)
track_is r s [] n w names c ready h made here = refl
track_is r s (e ∷ es) n w names c ready h made here =
    let next : (d : ℕ) → c ≡ Some d → slice_get (cursors_after r s e) w ≡ None → is_place (r.seen (store_after r s e)) d ≡ true = λ d is none. (
    let before = not_made r s e w (slice_get s.cursors w) refl none in
    place_kept _ _ d (changes-extends (reply_to r s e) (r.seen s.store) (r.seen (store_after r s e)) (made.0.plain d is before) h.0) (here d is before)) in (
      record {
        number = refl;
        before = refl;
        names = refl;
        from = refl;
        sound = ready.sound;
        here = places_on r s c (slice_get s.cursors w) (λ d is. ready.cursors w d is) here;
        there = places_on r (after r s e) c (slice_get (cursors_after r s e) w) (λ d is. (ready_after r s e ready h.0).cursors w d is) next;
        changes = h.0;
        effect = elim (effect r s e w) [
          | inl still ↦ inl (record { idle = still.idle; other = still.other; stays = stays_on _ _ _ c _ _ still.stays made.0.made made.0.plain })
          | inr moves ↦ inr (record {
            stepped = moves.stepped;
            at = moves.at;
            stood = ap (λ (z : Option ℕ). option_or z c) moves.stood;
            answered = subst (λ (z : Option ℕ). IsSomeAnd (option_or z c) (AnswersStep (r.seen s.store) w moves.at (reply_to r s e))) (sym moves.is_there) moves.answered;
          })
        ];
      },
      track_is r (after r s e) es (suc n) w _ c (ready_after r s e ready h.0) h.1 made.1 next,
    )
