-- A walk passes a record at most once; if no event rewrites the store, also a place.
use Rattle.krb_walk.proofs.Cited.{◌≡◌, ℕ, suc, ◌<◌, ◌≤◌, Bool, true, List, [], ◌∷◌, length, map, Option, Some, None, refl, arith, filter, AllByRecursion, find, nat_tests, Store, live_places, RecordName, WalkEvent, Track, PlacesStay, goes_past, passes, IsTrack, passes_record}
use Rattle.krb_walk.proofs.Names.{AreNamed, names_stay}
use Rattle.krb_walk.proofs.Tracks.{behind_none}
use Rattle.krb_walk.proofs.Ranked.{Keeps}
use Rattle.krb_walk.proofs.Comes.{keeps_here, keeps_next, passed_once}

-- if `find` finds no event, `filter` keeps none
none_kept : (f : WalkEvent → Bool) (t : Track) → find f t ≡ None → filter f t ≡ []
none_kept f [] none = refl
none_kept f (x ∷ t) none = search (arith, none_kept f t)

one_kept : (f : WalkEvent → Bool) (x : WalkEvent) (t : Track) (b : Bool) → f x ≡ b → (f x ≡ true → find f t ≡ None) → length (filter f t) ≤ 1 → length (filter f (x ∷ t)) ≤ 1
one_kept f x t b e none ih = search (arith, none_kept)

-- a record has at most one turn
pub one_turn : (r : RecordName) (n : ℕ) (s : Store) (names : List RecordName) (c : Option ℕ) (t : Track) (last : Store) → IsTrack n s names c t last → Keeps n s names → length (filter (passes_record r) t) ≤ 1
one_turn r n s names c [] last h k = omega arith
one_turn r n s names c (x ∷ t) last h k = one_kept (passes_record r) x t (passes_record r x) refl (passed_once r n s names c x t last h k) (one_turn r (suc n) x.after _ x.to t last h.1 (keeps_next n s names c x h.0 k))

-- a place has at most one turn, if no event rewrites the store
record Past (p : ℕ) (q : Option ℕ) : Type 0 where
  to : ℕ
  is : q ≡ Some to
  past : p < to

past_to : (p : ℕ) (o q : Option ℕ) → goes_past p o q ≡ true → Past p q
past_to p o q h = grind (arith, nat_tests)

place_once : (p n : ℕ) (s : Store) (names : List RecordName) (c : Option ℕ) (x : WalkEvent) (t : Track) (last : Store) → PlacesStay t → IsTrack n s names c (x ∷ t) last → passes p x ≡ true → find (passes p) t ≡ None
place_once p n s names c x t last k h e = let past = past_to p x.from x.to e in behind_none p (suc n) x.after _ x.to t last past.to k h.1 past.is past.past

pub one_past : (p n : ℕ) (s : Store) (names : List RecordName) (c : Option ℕ) (t : Track) (last : Store) → PlacesStay t → IsTrack n s names c t last → length (filter (passes p) t) ≤ 1
one_past p n s names c [] last k h = omega arith
one_past p n s names c (x ∷ t) last k h = one_kept (passes p) x t (passes p x) refl (place_once p n s names c x t last k.1 h) (one_past p (suc n) x.after _ x.to t last k.1 h.1)

-- there are as many names as live cells
pub names_many : (n : ℕ) (s : Store) (names : List RecordName) (c : Option ℕ) (t : Track) (last : Store) → IsTrack n s names c t last → Keeps n s names → AllByRecursion (λ x. length x.names ≡ length (live_places x.before)) t
names_many n s names c [] last h k = tt
names_many n s names c (x ∷ t) last h k = ((keeps_here n s names c x h.0 k).as_many, names_many (suc n) x.after _ x.to t last h.1 (keeps_next n s names c x h.0 k))

pub names_at : (n : ℕ) (s : Store) (names : List RecordName) (c : Option ℕ) (t : Track) (last : Store) → PlacesStay t → IsTrack n s names c t last → AreNamed s names → AllByRecursion (λ x. map (λ r. r.place) x.names ≡ live_places x.before) t
names_at n s names c [] last k h are = tt
names_at n s names c (x ∷ t) last k h are = search (arith, names_stay, names_at (suc n) x.after _ x.to t last k.1 h.1)
