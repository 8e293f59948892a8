-- What each event does to a walk, and the law of histories.
use Rattle.krb_walk.proofs.Cited.{◌≡◌, ℕ, zero, suc, ◌+◌, Bool, true, false, cond, List, [], ◌∷◌, ◌++◌, length, map, Some, Result, Ok, Err, inl, sym, ap, subst, arith, ◌&&◌, ◌⊎◌, nat_lt, slice_get, nat_tests, Event, Start, Resume, Step, Put, Cut, Rewrite, Code, Cell, Store, end_from, end_of, is_place_from, is_place, next_live, Changes, ReplyContent, Placed, Gone, Rewritten, is_step_reply, is_rewritten, Rules, SessionState, after, reply_to, store_after, cursors_after, stop_cursor, put_reply, cut_reply, cut_store, rewrite_cursors, IsReady, IsLawful, AllLawful, AllPlain, moment, history, state_after, steps_walk, rank, nth_or, carry, carry_by, AnswersStep, refl, Option, ◌==◌}
use Rattle.krb_walk.proofs.Lists.{get-push, get-append, get-set, get-set_other, get-set_same}
use Rattle.krb_walk.proofs.Places.{Extends, extends_self, extends_on, puts-extends, cuts-extends, sound_kept, place_kept, place_first, stop_place}
use Rattle.krb_walk.proofs.Stops.{is_place_from-first}
use Rattle.krb_walk.proofs.Lives.{lives}

pub same_extends : (old new : Store) → new ≡ old → Extends old new
same_extends old new e = subst (λ (s : Store). Extends old s) (sym e) (extends_self old)

pub changes-extends : (content : ReplyContent) (old new : Store) → is_rewritten content ≡ false → Changes content old new → Extends old new
changes-extends (Placed p) old new plain h = puts-extends old new p h
changes-extends (Gone p) old new plain h = cuts-extends old new p h
changes-extends (Rewritten p) old new plain h = cc
changes-extends content old new plain h = same_extends old new h

put_extends : {S : Type 0} (given : Result (ℕ × S) Code) (old new : Store) → Changes (put_reply given) old new → Extends old new
put_extends (Ok given) old new h = puts-extends old new given.0 h
put_extends (Err code) old new h = same_extends old new h

cut_extends : {S : Type 0} (p : ℕ) (given : Result S Code) (old new : Store) → Changes (cut_reply p given) old new → Extends old new
cut_extends p (Ok given) old new h = cuts-extends old new p h
cut_extends p (Err code) old new h = same_extends old new h

-- a cursor is carried to a place
place_at_nth : (at : ℕ) (cells : List Cell) (k : ℕ) → is_place_from at cells (nth_or (end_from at cells) (lives at cells) k) ≡ true
place_at_nth at [] k = is_place_from-first at []
place_at_nth at (x ∷ cells) k = grind (arith, nat_tests, place_at_nth (at + x.width) cells)

pub place_carried : (old new : Store) (c : ℕ) → is_place new (carry old new c) ≡ true
place_carried old new c = place_at_nth new.first new.cells (rank old c)

-- elements of a mapped table
get_map : (f : ℕ → ℕ) (xs : List ℕ) (w d : ℕ) → slice_get xs w ≡ Some d → slice_get (map f xs) w ≡ Some (f d)
get_map f [] w d h = cc
get_map f (x ∷ xs) zero d h = let same : x ≡ d = cc in ap (λ (y : ℕ). Some (f y)) same
get_map f (x ∷ xs) (suc w) d h = get_map f xs w d h

pub record Was (f : ℕ → ℕ) (c : ℕ) : Type 0 where
  pub at : ℕ
  pub is : f at ≡ c

pub was_map : (f : ℕ → ℕ) (xs : List ℕ) (w c : ℕ) → slice_get (map f xs) w ≡ Some c → Was f c
was_map f [] w c h = cc
was_map f (x ∷ xs) zero c h = record { at = x; is = cc }
was_map f (x ∷ xs) (suc w) c h = was_map f xs w c h

-- cursors that are at places
abbrev pub AtPlaces : Store → List ℕ → Type 0
AtPlaces s cursors = (w c : ℕ) → slice_get cursors w ≡ Some c → is_place s c ≡ true

at_start : (s : Store) (cursors : List ℕ) (p : ℕ) (b : Bool) → AtPlaces s cursors → (b ≡ true → is_place s p ≡ true) → AtPlaces s (cond b (cursors ++ p ∷ []) cursors)
at_start s cursors p b all here = search (arith, get-push)

at_rewrite : {S : Type 0} (seen : S → Store) (old : S) (cursors : List ℕ) (given : Result S Code) → AtPlaces (seen old) cursors → AtPlaces (seen (cut_store old given)) (rewrite_cursors seen old cursors given)
at_rewrite seen old cursors (Ok new) all w c e = let was = was_map (carry (seen old) (seen new)) cursors w c e in subst (λ (p : ℕ). is_place (seen new) p ≡ true) was.is (place_carried (seen old) (seen new) was.at)
at_rewrite seen old cursors (Err code) all w c e = all w c e

at_after : {S I : Type 0} (r : Rules S I) (s : SessionState S) (e : Event I) → AtPlaces (r.seen s.store) s.cursors → IsLawful r (moment r s e) → AtPlaces (r.seen (store_after r s e)) (cursors_after r s e)
at_after r s Start all h = at_start (r.seen s.store) s.cursors _ (nat_lt (length s.cursors) 1024) all (λ _. place_first (r.seen s.store))
at_after r s (Resume p) all h = at_start (r.seen s.store) s.cursors p (nat_lt (length s.cursors) 1024 && is_place (r.seen s.store) p) all (λ e. (search arith))
at_after r s (Step v) all h = search (arith, stop_place, get-set)
at_after r s (Put item) all h = λ w c e. place_kept _ _ c (put_extends (r.put s.store item) _ _ h) (all w c e)
at_after r s (Cut p) all h = λ w c e. place_kept _ _ c (cut_extends p (r.cut s.store p) _ _ h) (all w c e)
at_after r s Rewrite all h = at_rewrite r.seen s.store s.cursors (r.rewrite s.store) all

pub ready_after : {S I : Type 0} (r : Rules S I) (s : SessionState S) (e : Event I) → IsReady r s → IsLawful r (moment r s e) → IsReady r (after r s e)
ready_after r s e ready h = search (arith, sound_kept, put_extends, cut_extends, at_after)

-- an event that is no step of a walk, and one that is
pub record Unmoved {S I : Type 0} (r : Rules S I) (s : SessionState S) (e : Event I) (w : ℕ) : Type 0 where
  pub idle : steps_walk s e w ≡ false
  pub stays : (d : ℕ) → slice_get s.cursors w ≡ Some d → slice_get (cursors_after r s e) w ≡ Some (carry_by (reply_to r s e) (r.seen s.store) (r.seen (store_after r s e)) d)
  pub other : is_step_reply w (reply_to r s e) ≡ false

pub record Moves {S I : Type 0} (r : Rules S I) (s : SessionState S) (e : Event I) (w : ℕ) : Type 0 where
  pub stepped : steps_walk s e w ≡ true
  pub at : ℕ
  pub stood : slice_get s.cursors w ≡ Some at
  pub is_there : slice_get (cursors_after r s e) w ≡ Some (stop_cursor (end_of (r.seen s.store)) (next_live (r.seen s.store) at))
  pub answered : AnswersStep (r.seen s.store) w at (reply_to r s e) (stop_cursor (end_of (r.seen s.store)) (next_live (r.seen s.store) at))

effect_step : {S I : Type 0} (r : Rules S I) (s : SessionState S) (v w : ℕ) (o : Option ℕ) (b : Bool) → slice_get s.cursors v ≡ o → (v == w) ≡ b → Unmoved {I = I} r s (Step v) w ⊎ Moves {I = I} r s (Step v) w
effect_step r s v w o b is e = grind (arith, nat_tests, get-set_other, get-set_same)

pub effect : {S I : Type 0} (r : Rules S I) (s : SessionState S) (e : Event I) (w : ℕ) → Unmoved r s e w ⊎ Moves r s e w
effect r s (Step v) w = effect_step r s v w (slice_get s.cursors v) (v == w) refl refl
effect r s e w = inl (search (arith, get-append, get_map))

-- a history without rewrites: its last store has the cells of the first where they were
pub history_extends : {S I : Type 0} (r : Rules S I) (s : SessionState S) (es : List (Event I)) → AllPlain (history r s es) → AllLawful r (history r s es) → Extends (r.seen s.store) (r.seen (state_after r s es).store)
history_extends r s [] plain h = extends_self (r.seen s.store)
history_extends r s (e ∷ es) plain h = extends_on _ _ _ (changes-extends _ _ _ plain.0 h.0) (history_extends r (after r s e) es plain.1 h.1)

pub ready_to_last : {S I : Type 0} (r : Rules S I) (s : SessionState S) (es : List (Event I)) → IsReady r s → AllLawful r (history r s es) → IsReady r (state_after r s es)
ready_to_last r s [] ready h = ready
ready_to_last r s (e ∷ es) ready h = ready_to_last r (after r s e) es (ready_after r s e ready h.0) h.1
