-- A walk gives records in file order, and events keep records on their side of its cursor.
use Rattle.krb_walk.proofs.Cited.{◌≡◌, ℕ, suc, ◌<◌, ◌≤◌, Bool, true, false, List, [], ◌∷◌, ◌++◌, Option, Some, inl, inr, refl, subst, arith, ◌&&◌, AllByRecursion, Store, live_places, RecordName, WalkEvent, Track, carry_by, IsWalkEvent, IsTrack, place_of, goes_past_some, passes_record, HasTurn, ComeInTurn, KeepsSide}
use Rattle.krb_walk.proofs.WalkEvents.{find_later, effect_of}
use Rattle.krb_walk.proofs.Ranked.{Keeps, still_after}
use Rattle.krb_walk.proofs.Comes.{among_born, keeps_here, keeps_next, place_here, IsBehind, behind_event, passed, comes, turn_if_row, track_front}

-- a record that is before the cursor is before it at each later event
behind_later : (r : RecordName) (n : ℕ) (s : Store) (names : List RecordName) (c : Option ℕ) (ys : Track) (x : WalkEvent) (later : Track) (last : Store) (d e p : ℕ) → IsTrack n s names c (ys ++ x ∷ later) last → Keeps n s names → r.birth < n
    → c ≡ Some d → IsBehind r names s d → x.from ≡ Some e → place_of r x ≡ Some p → p < e
behind_later r n s names c [] x later last d e p h k lt at b from is = search (arith, place_here)
behind_later r n s names c (y ∷ ys) x later last d e p h k lt at b from is =
    let on = behind_event r n s names c y d h.0 k lt at b in
    behind_later r (suc n) y.after _ y.to ys x later last on.to e p h.1 (keeps_next n s names c y h.0 k) (omega arith) on.is on.behind from is

-- a record that was passed is before the cursor at each later event
passed_first : (r : RecordName) (n : ℕ) (s : Store) (names : List RecordName) (c : Option ℕ) (y : WalkEvent) (ys : Track) (x : WalkEvent) (later : Track) (last : Store) (e p : ℕ) (b : Bool) → passes_record r y ≡ b → IsTrack n s names c (y ∷ ys ++ x ∷ later) last → Keeps n s names
    → HasTurn r (y ∷ ys) → x.from ≡ Some e → place_of r x ≡ Some p → (HasTurn r ys → p < e) → p < e
passed_first r n s names c y ys x later last e p true now h k has from is ih =
    let was = passed r n s names c y h.0 k now in
    behind_later r (suc n) y.after _ y.to ys x later last was.on.to e p h.1 (keeps_next n s names c y h.0 k) (omega (arith, was.born)) was.on.is was.on.behind from is
passed_first r n s names c y ys x later last e p false now h k has from is ih = search (arith, find_later)

passed_later : (r : RecordName) (n : ℕ) (s : Store) (names : List RecordName) (c : Option ℕ) (ys : Track) (x : WalkEvent) (later : Track) (last : Store) (e p : ℕ) → IsTrack n s names c (ys ++ x ∷ later) last → Keeps n s names
    → HasTurn r ys → x.from ≡ Some e → place_of r x ≡ Some p → p < e
passed_later r n s names c [] x later last e p h k has from is = cc (has.is)
passed_later r n s names c (y ∷ ys) x later last e p h k has from is =
    passed_first r n s names c y ys x later last e p (passes_record r y) refl h k has from is (λ on. passed_later r (suc n) y.after _ y.to ys x later last e p h.1 (keeps_next n s names c y h.0 k) on from is)

-- the cursor before a step that passes a record is at or before it
record BeginsBefore (from : Option ℕ) (p : ℕ) : Type 0 where
  at : ℕ
  is : from ≡ Some at
  le : at ≤ p

begins_before : (b : Bool) (o from to : Option ℕ) (p : ℕ) → (b && goes_past_some o from to) ≡ true → o ≡ Some p → BeginsBefore from p
begins_before b o from to p h is = search arith

-- of two records that come in turn, the first is before the second
pub in_order : (q r : RecordName) (n : ℕ) (s : Store) (names : List RecordName) (c : Option ℕ) (t : Track) (last : Store) → IsTrack n s names c t last → Keeps n s names → (a : ComeInTurn q r t) → a.first_place < a.second_place
in_order q r n s names c t last h k a =
    let x = a.at in
    let whole : IsTrack n s names c (a.earlier ++ x ∷ a.later) last = subst (λ (z : Track). IsTrack n s names c z last) a.track_is h in
    let front = track_front n s names c a.earlier (x ∷ a.later) last whole in
    let has = turn_if_row q a.earlier (comes q n s names c a.earlier _ front k) a.given in
    let begins = begins_before x.stepped (place_of r x) x.from x.to a.second_place a.turn a.second_is_at in
    let behind = passed_later q n s names c a.earlier x a.later last begins.at a.first_place whole k has begins.is a.first_is_at in
    omega (arith, behind, begins.le)

-- an event that is no step of the walk keeps each record on its side of the cursor
side_kept : (r : RecordName) (n : ℕ) (s : Store) (names : List RecordName) (c : Option ℕ) (x : WalkEvent) → IsWalkEvent n s names c x → Keeps n s names → KeepsSide r x
side_kept r n s names c x h k = λ a d p q idle from to was is. (
    let kx = keeps_here n s names c x h k in
    let born = among_born x.number r x.names (live_places x.before) p kx.born was in
    let goes : d ≡ carry_by x.reply x.before x.after a = elim (effect_of x h.effect) [ inl holds ↦ cc (to, holds.stays a from) | inr steps ↦ cc (idle, steps.stepped) ] in
    elim (still_after x.number x.reply x.before x.after x.names r a h.sound h.changes kx born) [
      | inl none ↦ cc (none, is)
      | inr still ↦ (
          let here : still.p ≡ p = cc (still.was_at, was) in
          let there : still.q ≡ q = cc (still.is_at, is) in
          (λ le. (let on : a ≤ still.p = omega arith in omega (arith, still.side.on on)), λ le. (let back : carry_by x.reply x.before x.after a ≤ still.q = omega arith in omega (arith, still.side.back back))))
    ])

pub sides_kept : (r : RecordName) (n : ℕ) (s : Store) (names : List RecordName) (c : Option ℕ) (t : Track) (last : Store) → IsTrack n s names c t last → Keeps n s names → AllByRecursion (KeepsSide r) t
sides_kept r n s names c [] last h k = tt
sides_kept r n s names c (x ∷ xs) last h k = (side_kept r n s names c x h.0 k, sides_kept r (suc n) x.after _ x.to xs last h.1 (keeps_next n s names c x h.0 k))
