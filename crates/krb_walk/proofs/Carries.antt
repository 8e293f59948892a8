-- What a rewrite does to ranks and cursors.
use Rattle.krb_walk.proofs.Cited.{◌≡◌, ℕ, zero, suc, ◌+◌, ◌<◌, ◌≤◌, Bool, true, false, List, [], ◌∷◌, length, Some, None, refl, arith, AllByRecursion, nat_tests, Cell, Store, end_from, end_of, IsSound, live_places, rank, nth_or, carry, Rewrites, RecordName, place_among, ◌⊎◌, nat_lt, filter}
use Rattle.krb_walk.proofs.Lives.{lives}

-- strictly ascending numbers, at least lo, and below an end
abbrev pub Rises : ℕ → List ℕ → ℕ → Type 0
Rises lo [] end = lo ≤ end
Rises lo (p ∷ ps) end = (lo ≤ p) × Rises (suc p) ps end

rises_from : (lo hi end : ℕ) (ps : List ℕ) → lo ≤ hi → Rises hi ps end → Rises lo ps end
rises_from lo hi end [] le h = omega arith
rises_from lo hi end (p ∷ ps) le h = (omega (arith, h.0), h.1)

pub lives_rise : (at : ℕ) (cells : List Cell) → AllByRecursion (λ c. 0 < c.width) cells → Rises at (lives at cells) (end_from at cells)
lives_rise at [] sound = omega arith
lives_rise at (x ∷ cells) sound = search (arith, rises_from, lives_rise (at + x.width) cells sound.1)

pub places_rise : (s : Store) → IsSound s → Rises s.first (live_places s) (end_of s)
places_rise s sound = lives_rise s.first s.cells sound

-- how many of some numbers are below c
abbrev pub below : ℕ → List ℕ → ℕ
below c ps = length (filter (λ q. nat_lt q c) ps)

pub below_none : (c lo end : ℕ) (ps : List ℕ) → c ≤ lo → Rises lo ps end → below c ps ≡ 0
below_none c lo end [] le h = refl
below_none c lo end (p ∷ ps) le h = let no : nat_lt p c ≡ false = grind (arith, nat_tests, h.0) in rw no (below_none c (suc p) end ps (omega (arith, h.0)) h.1)

pub below_some : (c p : ℕ) (ps : List ℕ) → p < c → below c (p ∷ ps) ≡ suc (below c ps)
below_some c p ps lt = let yes : nat_lt p c ≡ true = grind (arith, nat_tests) in rw yes refl

below_few : (c : ℕ) (ps : List ℕ) → below c ps ≤ length ps
below_few c [] = omega arith
below_few c (p ∷ ps) = search (arith, below_few c ps)

-- an element of ascending numbers, or their end, is at least lo
nth_ge : (lo end k : ℕ) (ps : List ℕ) → Rises lo ps end → lo ≤ nth_or end ps k
nth_ge lo end k [] h = h
nth_ge lo end zero (p ∷ ps) h = h.0
nth_ge lo end (suc k) (p ∷ ps) h = omega (arith, h.0, nth_ge (suc p) end k ps h.1)

below_nth : (lo end k : ℕ) (ps : List ℕ) → Rises lo ps end → k ≤ length ps → below (nth_or end ps k) ps ≡ k
below_nth lo end k [] h le = omega arith
below_nth lo end zero (p ∷ ps) h le = let no : nat_lt p p ≡ false = grind (arith, nat_tests) in rw no (below_none p (suc p) end ps (omega arith) h.1)
below_nth lo end (suc k) (p ∷ ps) h le = search (arith, below_none, nth_ge, below_some, below_nth (suc p) end k ps h.1 (omega arith))

-- a rewrite keeps the rank of a cursor
pub carry_keeps_rank : (old new : Store) (c : ℕ) → Rewrites old new → rank new (carry old new c) ≡ rank old c
carry_keeps_rank old new c h = below_nth new.first (end_of new) (rank old c) (live_places new) (places_rise new h.sound) (omega (arith, below_few c (live_places old), h.as_many))

pub le_or : (a b : ℕ) (t : Bool) → nat_lt a b ≡ t → (a < b) ⊎ (b ≤ a)
le_or a b t e = search arith

among_ge : (r : RecordName) (lo end p : ℕ) (names : List RecordName) (ps : List ℕ) → Rises lo ps end → place_among r names ps ≡ Some p → lo ≤ p
among_ge r lo end p [] ps h is = cc
among_ge r lo end p (x ∷ names) [] h is = cc
among_ge r lo end p (x ∷ names) (q ∷ ps) h is = search (arith, among_ge r (suc q) end p names ps h.1)

-- one place is ahead of a cursor iff the other is ahead of the other cursor
pub record SameSide (c d p q : ℕ) : Type 0 where
  pub on : c ≤ p → d ≤ q
  pub back : d ≤ q → c ≤ p

-- a record in both lists is ahead of a cursor in the one iff it is ahead of the carried cursor in the other
same_side : (r : RecordName) (lo mo end fin c p q : ℕ) (names : List RecordName) (ps qs : List ℕ) → Rises lo ps end → Rises mo qs fin → place_among r names ps ≡ Some p → place_among r names qs ≡ Some q → SameSide c (nth_or fin qs (below c ps)) p q
same_side r lo mo end fin c p q [] ps qs h k was is = cc
same_side r lo mo end fin c p q (x ∷ names) [] qs h k was is = cc
same_side r lo mo end fin c p q (x ∷ names) (u ∷ ps) [] h k was is = cc
same_side r lo mo end fin c p q (x ∷ names) (u ∷ ps) (v ∷ qs) h k was is = search (arith, below_some, nth_ge, among_ge, below_none, same_side r (suc u) (suc v) end fin c p q names ps qs h.1 k.1)

-- a rewrite keeps each record ahead of each cursor, or not ahead of it
pub carry_same_side : (r : RecordName) (old new : Store) (names : List RecordName) (c p q : ℕ) → IsSound old → Rewrites old new → place_among r names (live_places old) ≡ Some p → place_among r names (live_places new) ≡ Some q → SameSide c (carry old new c) p q
carry_same_side r old new names c p q sound h was is = same_side r old.first new.first (end_of old) (end_of new) c p q names (live_places old) (live_places new) (places_rise old sound) (places_rise new h.sound) was is

-- a rewrite keeps each record that has a place
pub still_some : (r : RecordName) (names : List RecordName) (ps qs : List ℕ) → length ps ≡ length qs → place_among r names qs ≡ None → place_among r names ps ≡ None
still_some r [] ps qs e none = refl
still_some r (x ∷ names) [] qs e none = refl
still_some r (x ∷ names) (u ∷ ps) [] e none = cc
still_some r (x ∷ names) (u ∷ ps) (v ∷ qs) e none = search (arith, still_some r names ps qs)
