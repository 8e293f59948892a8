-- Joined runs.
use Rattle.krb_walk.proofs.Cited.{◌≡◌, ℕ, suc, ◌+◌, true, false, List, [], ◌∷◌, ◌++◌, length, Option, Some, None, inl, inr, refl, sym, ap, ◌∙◌, subst, arith, slice_get, AllByRecursion, option_or, Event, Resume, Store, is_place, Started, is_rewritten, Rules, SessionState, after, reply_to, cursors_after, Moment, IsReady, AllLawful, history, state_after, RecordName, Track, first_names, track_on, track, last_names, last_cursor, IsTrack, IsWalk, IsThereOrResumes, Next, track_then, Join}
use Rattle.std.proofs.lemmas.Option.{slice_get_within}
use Rattle.krb_walk.proofs.Effects.{effect}
use Rattle.krb_walk.proofs.Tracks.{tracks_join}
use Rattle.krb_walk.proofs.Histories.{MadeAt, made_none, track_is}

-- a walk exists, and still does after any event
pub record HasCursor (cursors : List ℕ) (w : ℕ) : Type 0 where
  pub at : ℕ
  pub is : slice_get cursors w ≡ Some at

cursor_after_event : {S I : Type 0} (r : Rules S I) (s : SessionState S) (e : Event I) (w : ℕ) → HasCursor s.cursors w → HasCursor (cursors_after r s e) w
cursor_after_event r s e w is_there = elim (effect r s e w) [
  | inl still ↦ record { at = _; is = still.stays is_there.at is_there.is }
  | inr moves ↦ record { at = _; is = moves.is_there }
]

cursor_to_end : {S I : Type 0} (r : Rules S I) (s : SessionState S) (es : List (Event I)) (w : ℕ) → HasCursor s.cursors w → HasCursor (state_after r s es).cursors w
cursor_to_end r s [] w is_there = is_there
cursor_to_end r s (e ∷ es) w is_there = cursor_to_end r (after r s e) es w (cursor_after_event r s e w is_there)

cursor_fits : {S I : Type 0} (r : Rules S I) (s : SessionState S) (es : List (Event I)) (w : ℕ) (c : Option ℕ) → HasCursor s.cursors w → MadeAt c r w s es
cursor_fits r s [] w c is_there = tt
cursor_fits r s (e ∷ es) w c is_there = (record { made = λ d a is none now. cc (is_there.is, none); plain = λ d is none. cc (is_there.is, none) }, cursor_fits r (after r s e) es w c (cursor_after_event r s e w is_there))

record Resumed (cursors after : List ℕ) (p w c : ℕ) : Type 0 where
  number : length cursors ≡ w
  place : p ≡ c
  made : after ≡ cursors ++ p ∷ []

resumed : {S I : Type 0} (r : Rules S I) (s : SessionState S) (p w c : ℕ) → reply_to r s (Resume p) ≡ Started w c → Resumed s.cursors (cursors_after r s (Resume p)) p w c
resumed r s p w c e = search arith

get_last : (xs : List ℕ) (p : ℕ) → slice_get (xs ++ p ∷ []) (length xs) ≡ Some p
get_last [] p = refl
get_last (x ∷ xs) p = get_last xs p

not_yet : (cursors : List ℕ) (w : ℕ) → length cursors ≡ w → HasCursor cursors w → ⊥
not_yet cursors w e is_there = omega (arith, e, slice_get_within cursors w is_there.at is_there.is)

resumes_fits : {S I : Type 0} (r : Rules S I) (s : SessionState S) (w c : ℕ) (earlier later : List (Event I)) → reply_to r (state_after r s earlier) (Resume c) ≡ Started w c → AllByRecursion (λ m. is_rewritten m.reply ≡ false) (history r s earlier) → MadeAt (Some c) r w s (earlier ++ Resume c ∷ later)
resumes_fits r s w c [] later content plain =
    let now = resumed r s c w c content in
    let is_there : slice_get (cursors_after r s (Resume c)) w ≡ Some c = ap (λ (xs : List ℕ). slice_get xs w) now.made ∙ ap (slice_get (s.cursors ++ c ∷ [])) (sym now.number) ∙ get_last s.cursors c in
    (record { made = λ d a is none there. cc (is_there, there, is); plain = λ d is none. (search arith) }, cursor_fits r (after r s (Resume c)) later w (Some c) (record { at = c; is = is_there }))
resumes_fits r s w c (e ∷ earlier) later content plain = (
  record {
    made = λ d a is none there. absurd (not_yet (state_after r (after r s e) earlier).cursors w (resumed r (state_after r (after r s e) earlier) c w c content).number (cursor_to_end r (after r s e) earlier w (record { at = a; is = there })));
    plain = λ d is none. plain.0;
  },
  resumes_fits r (after r s e) w c earlier later content plain.1,
)

begins_none : (cursors : List ℕ) (w c : ℕ) (o : Option ℕ) → slice_get cursors w ≡ o → (HasCursor cursors w → ⊥) → option_or o (Some c) ≡ Some c
begins_none cursors w c o is no_walk = search arith

begins_at : {S I : Type 0} (r : Rules S I) (s : SessionState S) (es : List (Event I)) (w c : ℕ) → IsThereOrResumes r s es w c → option_or (slice_get s.cursors w) (Some c) ≡ Some c
begins_at r s es w c on = elim on [
  | inl at ↦ ap (λ (o : Option ℕ). option_or o (Some c)) at
  | inr res ↦ begins_none s.cursors w c (slice_get s.cursors w) refl (λ is_there. not_yet _ w (resumed r (state_after r s res.earlier) c w c res.content).number (cursor_to_end r s res.earlier w is_there))
]

-- the cursor at the end of a history's track
cursor_last : {S I : Type 0} (r : Rules S I) (s : SessionState S) (es : List (Event I)) (n w : ℕ) (names : List RecordName) (c : Option ℕ) → last_cursor (option_or (slice_get s.cursors w) c) (track_on n names c r w (history r s es)) ≡ option_or (slice_get (state_after r s es).cursors w) c
cursor_last r s [] n w names c = refl
cursor_last r s (e ∷ es) n w names c = cursor_last r (after r s e) es (suc n) w _ c

pub length_track : {S I : Type 0} (r : Rules S I) (n w : ℕ) (names : List RecordName) (c : Option ℕ) (h : List (Moment S I)) → length (track_on n names c r w h) ≡ length h
length_track r n w names c [] = refl
length_track r n w names c (m ∷ ms) = ap suc (length_track r (suc n) w _ c ms)

-- the track of a history is that of a walk
pub history_walks : {S I : Type 0} (r : Rules S I) (s : SessionState S) (es : List (Event I)) (w : ℕ) → IsReady r s → AllLawful r (history r s es) → IsWalk (r.seen s.store) (slice_get s.cursors w) (track r s w (history r s es)) (r.seen (state_after r s es).store)
history_walks r s es w ready h =
    let first = r.seen s.store in
    let last = r.seen (state_after r s es).store in
    record {
      sound = ready.sound;
      here = λ d is. ready.cursors w d is;
      is = subst (λ (o : Option ℕ). IsTrack 1 first (first_names first) o (track r s w (history r s es)) last) (search arith) (track_is r s es 1 w (first_names first) None ready h (made_none r w s es) (λ d is none. cc));
    }

-- the last cursor of a track is a place of its last store
last_place : (n : ℕ) (s : Store) (names : List RecordName) (c : Option ℕ) (t : Track) (last : Store) (d : ℕ) → IsTrack n s names c t last → ((e : ℕ) → c ≡ Some e → is_place s e ≡ true) → last_cursor c t ≡ Some d → is_place last d ≡ true
last_place n s names c [] last d h here is = subst (λ (x : Store). is_place x d ≡ true) (sym h) (here d is)
last_place n s names c (x ∷ xs) last d h here is = last_place (suc n) x.after _ x.to xs last d h.1 h.0.there is

-- a track extended over the next run is that of a walk
pub walk_goes_on : {T J : Type 0} (first : Store) (start : Option ℕ) (t : Track) (last : Store) (q : Rules T J) (z : SessionState T) (gs : List (Event J)) (v c : ℕ) → IsWalk first start t last → Next first start t last q z gs v c
    → IsWalk first start (track_then first t q v c (history q z gs)) (q.seen (state_after q z gs).store)
walk_goes_on first start t last q z gs v c walk next =
    let names = last_names (first_names first) t in
    let u = track_on (suc (length t)) names (Some c) q v (history q z gs) in
    let end = q.seen (state_after q z gs).store in
    let place : is_place last c ≡ true = last_place 1 first (first_names first) start t last c walk.is walk.here next.cursor in
    let here : (d : ℕ) → Some c ≡ Some d → slice_get z.cursors v ≡ None → is_place (q.seen z.store) d ≡ true = λ d e _. (let same : c ≡ d = cc in subst (λ (m : ℕ). is_place (q.seen z.store) m ≡ true) same (subst (λ (x : Store). is_place x c ≡ true) (sym next.store) place)) in
    let is = track_is q z gs (suc (length t)) v names (Some c) next.run.ready next.run.lawful (search (arith, cursor_fits, resumes_fits)) here in
    let cursor : option_or (slice_get z.cursors v) (Some c) ≡ last_cursor start t = begins_at q z gs v c next.goes_on ∙ sym next.cursor in
    let number : suc (length t) ≡ 1 + length t = omega arith in
    record {
      sound = walk.sound;
      here = walk.here;
      is = tracks_join 1 first (first_names first) start t u last end walk.is
          (subst (λ (n : ℕ). IsTrack n last names (last_cursor start t) u end) number
          (subst (λ (o : Option ℕ). IsTrack (suc (length t)) last names o u end) cursor
          (subst (λ (x : Store). IsTrack (suc (length t)) x names (option_or (slice_get z.cursors v) (Some c)) u end) next.store is)));
    }

-- two joined runs satisfy `Next`
pub joined_next : {S T I J : Type 0} (r : Rules S I) (s : SessionState S) (es : List (Event I)) (w : ℕ) (q : Rules T J) (z : SessionState T) (gs : List (Event J)) (v c : ℕ) → Join r s es w q z gs v c
    → Next (r.seen s.store) (slice_get s.cursors w) (track r s w (history r s es)) (r.seen (state_after r s es).store) q z gs v c
joined_next r s es w q z gs v c j = record {
  run = j.next_run;
  store = j.store;
  cursor =
      ap (λ (o : Option ℕ). last_cursor o (track r s w (history r s es))) (sym (search arith))
      ∙ cursor_last r s es 1 w (first_names (r.seen s.store)) None ∙ (search arith) ∙ j.cursor;
  goes_on = j.goes_on;
}
