-- The laws of a walk, over one run and over joined runs.
use Rattle.krb_walk.proofs.Cited.{◌≡◌, ℕ, suc, ◌+◌, ◌≤◌, List, [], ◌∷◌, ◌++◌, length, Option, Some, None, refl, sym, ap, ◌∙◌, subst, arith, AllByRecursion, Event, Store, Rules, SessionState, Moment, Row, IsReady, AllLawful, history, state_after, given, given_from, rows_of_reply, RecordName, WalkEvent, Track, PlacesStay, first_names, track_on, track, last_names, IsTrack, IsWalk, rows_at_event, given_over, due_over, due_by_steps, CursorIsSound, records_from, flat_map-append, IsFair, additions, Join, joined}
use Rattle.krb_walk.proofs.WalkEvents.{cursor_is_sound}
use Rattle.krb_walk.proofs.Tracks.{track_gives, track_gives_by_steps}
use Rattle.krb_walk.proofs.Ranked.{first_keeps}
use Rattle.krb_walk.proofs.Comes.{track_rest}
use Rattle.krb_walk.proofs.Order.{sides_kept}
use Rattle.krb_walk.proofs.ComeLaws.{each_comes}
use Rattle.krb_walk.proofs.Names.{first_named}
use Rattle.krb_walk.proofs.Unique.{one_past, names_many, names_at}
use Rattle.krb_walk.proofs.Counts.{rows_named, few_steps}
use Rattle.krb_walk.proofs.Faults.{faulted_from, steps_replied, others_end}
use Rattle.krb_walk.proofs.Joins.{history_walks, walk_goes_on, joined_next, length_track}

few_of : (n : ℕ) (s : Store) (names : List RecordName) (c : Option ℕ) (t : Track) (last : Store) → IsTrack n s names c t last → (earlier : Track) (x : WalkEvent) (steps later : Track) (d : ℕ) → t ≡ earlier ++ (x ∷ steps ++ later) → x.from ≡ Some d → length (given_over (x ∷ steps)) ≤ length (records_from x.before d) + additions (x ∷ steps)
few_of n s names c t last h earlier x steps later d is at =
    let rest = track_rest n s names c earlier (x ∷ steps ++ later) last (subst (λ (z : Track). IsTrack n s names c z last) is h) in
    let few = few_steps _ _ _ _ (x ∷ steps) later last d rest (sym rest.0.from ∙ at) in
    omega (arith, few, ap (λ (z : Store). length (records_from z d)) rest.0.before)

-- the cursor is sound at each event
cursors_keep : (n : ℕ) (s : Store) (names : List RecordName) (c : Option ℕ) (t : Track) (last : Store) → IsTrack n s names c t last → AllByRecursion (λ x. (d : ℕ) → x.from ≡ Some d → CursorIsSound x d) t
cursors_keep n s names c [] last h = tt
cursors_keep n s names c (x ∷ xs) last h = (λ d at. cursor_is_sound n s names c x d h.0 at, cursors_keep (suc n) x.after _ x.to xs last h.1)

-- each walk satisfies `IsFair`, over one run or over joined runs
pub walk_fair : (first : Store) (start : Option ℕ) (t : Track) (last : Store) → IsWalk first start t last → IsFair t last
walk_fair first start t last walk = search (arith, first_keeps, track_gives_by_steps, track_gives, one_past, names_many, names_at, first_named, rows_named, each_comes, sides_kept, few_steps, few_of, steps_replied, others_end, faulted_from, cursors_keep)

pub history_fair : {S I : Type 0} (r : Rules S I) (s : SessionState S) (es : List (Event I)) (w : ℕ) → IsReady r s → AllLawful r (history r s es) → IsFair (track r s w (history r s es)) (r.seen (state_after r s es).store)
history_fair r s es w ready h = walk_fair _ _ _ _ (history_walks r s es w ready h)

pub joined_fair : {S T I J : Type 0} (r : Rules S I) (s : SessionState S) (es : List (Event I)) (w : ℕ) (q : Rules T J) (z : SessionState T) (gs : List (Event J)) (v c : ℕ) → Join r s es w q z gs v c → IsFair (joined r s es w q z gs v c) (q.seen (state_after q z gs).store)
joined_fair r s es w q z gs v c j = walk_fair _ _ _ _ (walk_goes_on _ _ _ _ q z gs v c (history_walks r s es w j.run.ready j.run.lawful) (joined_next r s es w q z gs v c j))

-- the rows of a track are those that the replies give
given_track : {S I : Type 0} (r : Rules S I) (n w : ℕ) (names : List RecordName) (c : Option ℕ) (h : List (Moment S I)) → given_over (track_on n names c r w h) ≡ given_from n w h
given_track r n w names c [] = refl
given_track r n w names c (m ∷ ms) = ap (λ (rows : List Row). rows_of_reply w n m.reply ++ rows) (given_track r (suc n) w _ c ms)

pub track_replies : {S I : Type 0} (r : Rules S I) (s : SessionState S) (es : List (Event I)) (w : ℕ) → given_over (track r s w (history r s es)) ≡ given w (history r s es)
track_replies r s es w = given_track r 1 w (first_names (r.seen s.store)) None (history r s es)

-- what a walk is given is what is due to it
pub gives_due_at_places : {S I : Type 0} (r : Rules S I) (s : SessionState S) (es : List (Event I)) (w : ℕ) → IsReady r s → AllLawful r (history r s es) → PlacesStay (track r s w (history r s es)) → given w (history r s es) ≡ due_over (track r s w (history r s es)) (r.seen (state_after r s es).store)
gives_due_at_places r s es w ready h keeps = sym (track_replies r s es w) ∙ (history_fair r s es w ready h).given_is_due_at_places keeps

pub gives_due : {S I : Type 0} (r : Rules S I) (s : SessionState S) (es : List (Event I)) (w : ℕ) → IsReady r s → AllLawful r (history r s es) → given w (history r s es) ≡ due_by_steps (track r s w (history r s es))
gives_due r s es w ready h = sym (track_replies r s es w) ∙ (history_fair r s es w ready h).given_is_due

pub joined_gives : {S T I J : Type 0} (r : Rules S I) (s : SessionState S) (es : List (Event I)) (w : ℕ) (q : Rules T J) (z : SessionState T) (gs : List (Event J)) (v c : ℕ) → Join r s es w q z gs v c
    → given w (history r s es) ++ given_from (suc (length (history r s es))) v (history q z gs) ≡ due_by_steps (joined r s es w q z gs v c)
joined_gives r s es w q z gs v c j =
    let first = track r s w (history r s es) in
    let names = last_names (first_names (r.seen s.store)) first in
    let next = track_on (suc (length first)) names (Some c) q v (history q z gs) in
    let number : suc (length first) ≡ suc (length (history r s es)) = ap suc (length_track r 1 w (first_names (r.seen s.store)) None (history r s es)) in
    sym (flat_map-append rows_at_event first next
    ∙ ap (λ (rows : List Row). rows ++ given_over next) (given_track r 1 w (first_names (r.seen s.store)) None (history r s es))
    ∙ ap (λ (rows : List Row). given w (history r s es) ++ rows) (given_track q (suc (length first)) v names (Some c) (history q z gs) ∙ ap (λ (n : ℕ). given_from n v (history q z gs)) number))
    ∙ (joined_fair r s es w q z gs v c j).given_is_due
