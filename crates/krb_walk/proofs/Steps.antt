-- The replies to steps, how cursors move, and that places stay.
use Rattle.krb_walk.proofs.Cited.{◌≡◌, ◌≢◌, ℕ, ◌+◌, ◌<◌, ◌≤◌, true, false, cond, List, [], ◌∷◌, ◌++◌, Option, Some, None, inl, inr, refl, sym, ap, ◌∙◌, subst, arith, ◌==◌, ◌⊎◌, slice_get, IsSomeAnd, find, option_map, Event, Step, Put, Cell, Store, standing, end_of, is_place, size_at, Placed, is_rewritten, Rules, SessionState, after, reply_to, IsReady, IsLawful, AllLawful, AllPlain, moment, history, state_after, AnswersStep}
use Rattle.krb_walk.proofs.Lists.{get-append, get-set_other, get-set_same}
use Rattle.krb_walk.proofs.Splits.{end_from-append}
use Rattle.krb_walk.proofs.Places.{Extends, place_kept, stop_forward, widths}
use Rattle.krb_walk.proofs.Effects.{effect, ready_after, history_extends}
use Rattle.krb_walk.proofs.WalkEvents.{carry_by-same}

-- the reply to a step
pub step_answered : {S I : Type 0} (r : Rules S I) (s : SessionState S) (w c : ℕ) → slice_get s.cursors w ≡ Some c → IsSomeAnd (slice_get (after {I = I} r s (Step w)).cursors w) (AnswersStep (r.seen s.store) w c (reply_to {I = I} r s (Step w)))
step_answered r s w c at = search (arith, get-set_same)

-- a cursor moves only at a step of its walk
pub only_steps : {S I : Type 0} (r : Rules S I) (s : SessionState S) (e : Event I) (w c : ℕ) → slice_get s.cursors w ≡ Some c → e ≢ Step w → is_rewritten (reply_to r s e) ≡ false → slice_get (after r s e).cursors w ≡ Some c
only_steps r s e w c at ne kept = search (arith, get-append, get-set_other)

-- a cursor never goes back
pub never_back : {S I : Type 0} (r : Rules S I) (s : SessionState S) (es : List (Event I)) (w b c : ℕ) → IsReady r s → AllPlain (history r s es) → AllLawful r (history r s es) → slice_get s.cursors w ≡ Some c → b ≤ c → IsSomeAnd (slice_get (state_after r s es).cursors w) (λ d. b ≤ d)
never_back r s [] w b c ready plain h at le = subst (λ (o : Option ℕ). IsSomeAnd o (λ d. b ≤ d)) (sym at) le
never_back r s (e ∷ es) w b c ready plain h at le =
    let next = ready_after r s e ready h.0 in
    elim (effect r s e w) [
      | inl still ↦ never_back r (after r s e) es w b c next plain.1 h.1 (still.stays c at ∙ ap Some (carry_by-same (reply_to r s e) _ _ c plain.0)) le
      | inr moves ↦ (
          let same : c ≡ moves.at = cc (at, moves.stood) in
          let forward = stop_forward (r.seen s.store) moves.at (ready.cursors w moves.at moves.stood) in
          never_back r (after r s e) es w b _ next plain.1 h.1 moves.is_there (omega arith))
    ]

-- a place stays a place, and its cell keeps its size
abbrev size_in : ℕ → List ℕ → ℕ → Option ℕ
size_in at [] p = None
size_in at (w ∷ ws) p = cond (at == p) (Some w) (size_in (at + w) ws p)

abbrev size_from : ℕ → List Cell → ℕ → Option ℕ
size_from at cells p = option_map (λ x. x.cell.width) (find (λ x. x.place == p) (standing at cells))

sizes : (at : ℕ) (cells : List Cell) (p : ℕ) → size_from at cells p ≡ size_in at (widths cells) p
sizes at [] p = refl
sizes at (x ∷ xs) p = search (arith, sizes (at + x.width) xs p)

size_more : (at : ℕ) (ws more : List ℕ) (p n : ℕ) → size_in at ws p ≡ Some n → size_in at (ws ++ more) p ≡ Some n
size_more at [] more p n h = cc
size_more at (w ∷ ws) more p n h = search (arith, size_more (at + w) ws more p n)

size_kept : (old new : Store) (p n : ℕ) → Extends old new → size_at old p ≡ Some n → size_at new p ≡ Some n
size_kept old new p n e h = search (arith, sizes, size_in, size_more)

pub places_kept : {S I : Type 0} (r : Rules S I) (s : SessionState S) (es : List (Event I)) (p : ℕ) → AllPlain (history r s es) → AllLawful r (history r s es) → is_place (r.seen s.store) p ≡ true → is_place (r.seen (state_after r s es).store) p ≡ true
places_kept r s es p plain h is = place_kept _ _ p (history_extends r s es plain h) is

pub sizes_kept : {S I : Type 0} (r : Rules S I) (s : SessionState S) (es : List (Event I)) (p n : ℕ) → AllPlain (history r s es) → AllLawful r (history r s es) → size_at (r.seen s.store) p ≡ Some n → size_at (r.seen (state_after r s es).store) p ≡ Some n
sizes_kept r s es p n plain h is = size_kept _ _ p n (history_extends r s es plain h) is

-- an appended record is at the old end
pub put_place : {S I : Type 0} (r : Rules S I) (s : SessionState S) (item : I) (p : ℕ) → IsLawful r (moment r s (Put item)) → reply_to r s (Put item) ≡ Placed p
    → (end_of (r.seen (after r s (Put item)).store) ≡ end_of (r.seen s.store)) ⊎ ((p ≡ end_of (r.seen s.store)) × (end_of (r.seen s.store) < end_of (r.seen (after r s (Put item)).store)))
put_place r s item p h content = search (arith, end_from-append)
