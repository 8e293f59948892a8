-- How the events change a session's table of cursors, and its state after a step.
use Rattle.krb_walk.proofs.Cited.{◌≡◌, ℕ, ◌<◌, ◌≤◌, true, List, ◌++◌, length, map, take, drop, set, Result, Ok, Err, refl, sym, ap, ◌∙◌, subst, arith, IfOk, OnOk, OnErr, slice_get, length-take, length-append, length-map, take-append-drop, Code, Store, end_of, stop_at, next_live, is_place, Puts, Cuts, carry, Rewrites, Rules, PutGives, CutGives, RewriteGives, SessionState, stop_cursor, take-set-lt, take-append_seam, IsKept, place_after, slice_set, Option, Some, None, Step, session_of, after, step_cursors}
use Rattle.krb_walk.specs.declared.refusal.Refusal.{Refusal}
use Rattle.krb_walk.specs.declared.refusal.Refusal.TheVariants.{Code as ByCode, NoMemory}
use Rattle.krb_walk.proofs.Places.{Extends, puts-extends, cuts-extends, sound_kept, place_kept}
use Rattle.krb_walk.proofs.Effects.{was_map, place_carried}

-- the state that a table represents
abbrev pub shown : {S : Type 0} → S → List ℕ → ℕ → SessionState S
shown store table count = record { store = store; cursors = take count table }

-- the place after a stop is where the cursor goes
pub place_after-stop_at : (s : Store) (c : ℕ) → place_after (stop_at s c) ≡ stop_cursor (end_of s) (next_live s c)
place_after-stop_at s c = search arith

-- a cursor is written
pub go_shown : {S : Type 0} (s : SessionState S) (store : S) (table : List ℕ) (count walk to : ℕ) → shown store table count ≡ s → walk < length s.cursors → shown store (set table walk to) count ≡ record { store = s.store; cursors = set s.cursors walk to }
go_shown {S} s store table count walk to is is_there = search (arith, length-take, take-set-lt)

-- a change of the store without a rewrite keeps the table valid
extends_kept : {S I : Type 0} (r : Rules S I) (old new : S) (table : List ℕ) (count : ℕ) → Extends (r.seen old) (r.seen new) → IsKept r old table count → IsKept r new table count
extends_kept r old new table count e kept = record {
  few = kept.few;
  room = kept.room;
  ready = record { sound = sound_kept _ _ e kept.ready.sound; cursors = λ w c h. place_kept _ _ c e (kept.ready.cursors w c h) };
}

same_kept : {S I : Type 0} (r : Rules S I) (old new : S) (table : List ℕ) (count : ℕ) → new ≡ old → IsKept r old table count → IsKept r new table count
same_kept r old new table count e kept = subst (λ x. IsKept r x table count) (sym e) kept

pub put_kept : {S I : Type 0} (r : Rules S I) (old new : S) (item : I) (result : Result ℕ Refusal) (table : List ℕ) (count : ℕ) → PutGives (r.put old item) old result new → IfOk result (Puts (r.seen old) (r.seen new)) → IsKept r old table count → IsKept r new table count
put_kept r old new item (Ok p) table count gives puts kept = extends_kept r old new table count (puts-extends _ _ p puts) kept
put_kept r old new item (Err (ByCode code)) table count gives puts kept = same_kept r old new table count gives.1 kept
put_kept r old new item (Err NoMemory) table count gives puts kept = same_kept r old new table count gives kept

pub cut_kept : {S I : Type 0} (r : Rules S I) (old new : S) (p : ℕ) (result : Result (Unit {0}) Code) (table : List ℕ) (count : ℕ) → CutGives (r.cut old p) old result new → OnOk result (Cuts (r.seen old) (r.seen new) p) → IsKept r old table count → IsKept r new table count
cut_kept r old new p (Ok done) table count gives cuts kept = extends_kept r old new table count (cuts-extends _ _ p cuts) kept
cut_kept r old new p (Err code) table count gives cuts kept = same_kept r old new table count gives.1 kept

-- a rewrite carries the cursors in the prefix of the table
carried_kept : {S I : Type 0} (r : Rules S I) (old new : S) (front back now : List ℕ) (count : ℕ) → Rewrites (r.seen old) (r.seen new) → now ≡ map (carry (r.seen old) (r.seen new)) front → length front ≡ count → count ≤ 1024 → length (front ++ back) ≡ 1024 → IsKept r new (now ++ back) count
carried_kept r old new front back now count h is len few room =
    let same : length now ≡ length front = ap length is ∙ length-map front (carry (r.seen old) (r.seen new)) in
    let shown_is : take count (now ++ back) ≡ now = ap (λ (k : ℕ). take k (now ++ back)) (sym (same ∙ len)) ∙ take-append_seam now back in
    record {
      few = few;
      room = omega (arith, length-append now back, length-append front back, same, room);
      ready = record {
        sound = h.sound;
        cursors = λ w c e. (
            let there = ap (λ (l : List ℕ). slice_get l w) (sym (shown_is ∙ is)) ∙ e in
            let was = was_map (carry (r.seen old) (r.seen new)) front w c there in
            subst (λ (p : ℕ). is_place (r.seen new) p ≡ true) was.is (place_carried (r.seen old) (r.seen new) was.at));
      };
    }

pub rewrite_kept : {S I : Type 0} (r : Rules S I) (old new : S) (result : Result (Unit {0}) Refusal) (table now : List ℕ) (count : ℕ) → RewriteGives (r.rewrite old) old result new → OnOk result (Rewrites (r.seen old) (r.seen new))
    → OnOk result (now ≡ map (carry (r.seen old) (r.seen new)) (take count table) ++ drop count table) → OnErr result (now ≡ table) → IsKept r old table count → IsKept r new now count
rewrite_kept r old new (Ok done) table now count gives rewrites carries keeps kept =
    let front = take count table in
    let len : length front ≡ count = omega (arith, length-take count table, kept.few, kept.room) in
    subst (λ (l : List ℕ). IsKept r new l count) (sym carries) (carried_kept r old new front (drop count table) (map (carry (r.seen old) (r.seen new)) front) count rewrites refl len kept.few (ap length (take-append-drop count table) ∙ kept.room))
rewrite_kept r old new (Err (ByCode code)) table now count gives rewrites carries keeps kept = subst (λ (l : List ℕ). IsKept r new l count) (sym keeps) (same_kept r old new table count gives.1 kept)
rewrite_kept r old new (Err NoMemory) table now count gives rewrites carries keeps kept = subst (λ (l : List ℕ). IsKept r new l count) (sym keeps) (same_kept r old new table count gives.1 kept)

abbrev with : {S : Type 0} → S → List ℕ → SessionState S
with store cursors = record { store = store; cursors = cursors }

-- moving the walk's cursor to where a step leads gives the state after that step
pub stepped : {S T I : Type 0} (r : Rules T I) (state : S → T) (old new : SessionState S) (store : S) (w c next : ℕ) → store ≡ old.store → Some c ≡ slice_get old.cursors w → next ≡ stop_cursor (end_of (r.seen (state store))) (next_live (r.seen (state store)) c) → new ≡ record { store = old.store; cursors = slice_set old.cursors w next } → session_of state new ≡ after {I = I} r (session_of state old) (Step w)
stepped {S} r state old new store w c next same is_there is moved =
    ap (session_of state) moved
    ∙ ap (λ (n : ℕ). with (state old.store) (slice_set old.cursors w n)) is
    ∙ ap (λ (s : S). with (state old.store) (slice_set old.cursors w (stop_cursor (end_of (r.seen (state s))) (next_live (r.seen (state s)) c)))) same
    ∙ ap (λ (o : Option ℕ). with (state old.store) (step_cursors (r.seen (state old.store)) old.cursors w o)) is_there

-- if there is no such walk, the state is unchanged
pub not_stepped : {S T I : Type 0} (r : Rules T I) (state : S → T) (old : SessionState S) (w : ℕ) → None ≡ slice_get old.cursors w → session_of state old ≡ after {I = I} r (session_of state old) (Step w)
not_stepped r state old w none = ap (λ (o : Option ℕ). with (state old.store) (step_cursors (r.seen (state old.store)) old.cursors w o)) none
