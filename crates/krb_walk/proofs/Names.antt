-- The names of records follow the live cells.
use Rattle.krb_walk.proofs.Cited.{◌≡◌, ℕ, zero, suc, ◌+◌, ◌<◌, ◌≤◌, Bool, true, false, List, [], ◌∷◌, ◌++◌, length, map, take, drop, Option, Some, None, refl, sym, ap, ◌∙◌, arith, ◌==◌, insert, remove, AllByRecursion, list_any, take-map, drop-map, map-append, nat_tests, Cell, Store, Record, IsSound, Changes, ReplyContent, Placed, Gone, Rewritten, is_rewritten, live_places, rank, RecordName, first_names, names_after, take-append_seam, drop-append_seam, drop-append-add, all_join}
use Rattle.krb_walk.proofs.Cells.{live_from, find_head, find_tail}
use Rattle.krb_walk.proofs.Lives.{lives, lives_ge, puts_insert, cuts_insert}

-- the names have the places of the live cells, in order
abbrev pub AreNamed : Store → List RecordName → Type 0
AreNamed s names = map (λ x. x.place) names ≡ live_places s

named_insert : (names : List RecordName) (front back : List ℕ) (k : ℕ) (nm : RecordName) → k ≡ length front → map (λ x. x.place) names ≡ front ++ back → map (λ x. x.place) (insert names k nm) ≡ front ++ nm.place ∷ back
named_insert names front back k nm k_is are =
    let f : RecordName → ℕ = λ x. x.place in
    map-append f (take k names) (nm ∷ drop k names)
    ∙ ap (λ (l : List ℕ). l ++ nm.place ∷ map f (drop k names)) (sym (take-map f k names) ∙ ap (take k) are ∙ ap (λ (j : ℕ). take j (front ++ back)) k_is ∙ take-append_seam front back)
    ∙ ap (λ (l : List ℕ). front ++ nm.place ∷ l) (sym (drop-map f k names) ∙ ap (drop k) are ∙ ap (λ (j : ℕ). drop j (front ++ back)) k_is ∙ drop-append_seam front back)

named_remove : (names : List RecordName) (front back : List ℕ) (k p : ℕ) → k ≡ length front → map (λ x. x.place) names ≡ front ++ p ∷ back → map (λ x. x.place) (remove names k) ≡ front ++ back
named_remove names front back k p k_is are =
    let f : RecordName → ℕ = λ x. x.place in
    let next : suc k ≡ length front + 1 = omega (arith, k_is) in
    map-append f (take k names) (drop (suc k) names)
    ∙ ap (λ (l : List ℕ). l ++ map f (drop (suc k) names)) (sym (take-map f k names) ∙ ap (take k) are ∙ ap (λ (j : ℕ). take j (front ++ p ∷ back)) k_is ∙ take-append_seam front (p ∷ back))
    ∙ ap (λ (l : List ℕ). front ++ l) (sym (drop-map f (suc k) names) ∙ ap (drop (suc k)) are ∙ ap (λ (j : ℕ). drop j (front ++ p ∷ back)) next ∙ drop-append-add front (p ∷ back) 1)

pub names_stay : (n : ℕ) (content : ReplyContent) (old new : Store) (names : List RecordName) → is_rewritten content ≡ false → IsSound old → Changes content old new → AreNamed old names → AreNamed new (names_after n content old new names)
names_stay n (Placed p) old new names same sound h are = let i = puts_insert old new p sound h in named_insert names i.front i.back (rank new p) (record { place = p; birth = n }) i.rank_is (are ∙ i.lo_is) ∙ sym i.hi_is
names_stay n (Rewritten p) old new names same sound h are = cc
names_stay n (Gone p) old new names same sound h are = let i = cuts_insert old new p sound h in named_remove names i.front i.back (rank old p) p i.rank_is (are ∙ i.hi_is) ∙ sym i.lo_is
names_stay n content old new names same sound h are = are ∙ sym (ap live_places h)

map_place : (ps : List ℕ) → map (λ x. x.place) (map {A = ℕ} {B = RecordName} (λ p. record { place = p; birth = 0 }) ps) ≡ ps
map_place [] = refl
map_place (p ∷ ps) = ap (λ (l : List ℕ). p ∷ l) (map_place ps)

pub first_named : (s : Store) → AreNamed s (first_names s)
first_named s = map_place (live_places s)

-- a name is alive: there is a live cell at its place
any_ge : (m p : ℕ) (ps : List ℕ) → AllByRecursion (λ q. m ≤ q) ps → list_any (λ q. q == p) ps ≡ true → m ≤ p
any_ge m p [] all h = cc
any_ge m p (q ∷ ps) all h = grind (arith, nat_tests, any_ge m p ps all.1)

pub any_lt : (m p : ℕ) (ps : List ℕ) → AllByRecursion (λ q. q < m) ps → list_any (λ q. q == p) ps ≡ true → p < m
any_lt m p [] all h = cc
any_lt m p (q ∷ ps) all h = grind (arith, nat_tests, any_lt m p ps all.1)

pub record LivesAt (at : ℕ) (cells : List Cell) (p : ℕ) : Type 0 where
  pub held : Record
  pub is : live_from at cells p ≡ Some held

in_lives_cons : (at w p : ℕ) (live : Option (List ℕ)) (b : Bool) (cells : List Cell) → (at == p) ≡ b → 0 < w → (list_any (λ q. q == p) (lives (at + w) cells) ≡ true → LivesAt (at + w) cells p)
    → list_any (λ q. q == p) (lives at (record { width = w; live = live } ∷ cells)) ≡ true → LivesAt at (record { width = w; live = live } ∷ cells) p
in_lives_cons at w p None b cells e some ih h = search (arith, any_ge, lives, lives_ge, find_tail)
in_lives_cons at w p (Some bytes) true cells e some ih h =
    let same : at ≡ p = grind (arith, nat_tests) in
    record { held = record { place = at; next = at + w; bytes = bytes }; is = ap (live_from at (record { width = w; live = Some bytes } ∷ cells)) (sym same) ∙ find_head at w (Some bytes) cells }
in_lives_cons at w p (Some bytes) false cells e some ih h = search (arith, any_ge, lives, lives_ge, find_tail)

pub in_lives : (at p : ℕ) (cells : List Cell) → AllByRecursion (λ c. 0 < c.width) cells → list_any (λ q. q == p) (lives at cells) ≡ true → LivesAt at cells p
in_lives at p [] sound h = cc
in_lives at p (x ∷ cells) sound h = in_lives_cons at x.width p x.live (at == p) cells refl sound.0 (in_lives (at + x.width) p cells sound.1) h

-- each is born before event n
abbrev pub AreBorn : ℕ → List RecordName → Type 0
AreBorn n names = AllByRecursion (λ x. x.birth < n) names

-- lists with one more element, and with one less
all_take : {X : Type 0} (P : X → Type 0) (k : ℕ) (xs : List X) → AllByRecursion P xs → AllByRecursion P (take k xs)
all_take P zero xs h = tt
all_take P (suc k) [] h = tt
all_take P (suc k) (x ∷ xs) h = (h.0, all_take P k xs h.1)

all_drop : {X : Type 0} (P : X → Type 0) (k : ℕ) (xs : List X) → AllByRecursion P xs → AllByRecursion P (drop k xs)
all_drop P zero xs h = h
all_drop P (suc k) [] h = tt
all_drop P (suc k) (x ∷ xs) h = all_drop P k xs h.1

born_later : (n : ℕ) (names : List RecordName) → AreBorn n names → AreBorn (suc n) names
born_later n [] h = tt
born_later n (x ∷ names) h = (omega (arith, h.0), born_later n names h.1)

pub born_after : (n : ℕ) (content : ReplyContent) (old new : Store) (names : List RecordName) → AreBorn n names → AreBorn (suc n) (names_after n content old new names)
born_after n content old new names h = search (arith, born_later, all_join, all_take, all_drop)

first_born_of : (ps : List ℕ) → AreBorn 1 (map {A = ℕ} {B = RecordName} (λ p. record { place = p; birth = 0 }) ps)
first_born_of [] = tt
first_born_of (p ∷ ps) = (omega arith, first_born_of ps)

pub first_born : (s : Store) → AreBorn 1 (first_names s)
first_born s = first_born_of (live_places s)

-- no name of a removed cell is left
pub apart : (p : ℕ) (front back : List ℕ) → AllByRecursion (λ q. q < p) front → AllByRecursion (λ q. p < q) back → list_any (λ q. q == p) (front ++ back) ≡ true → ⊥
apart p [] [] h k e = cc
apart p [] (q ∷ back) h k e = grind (arith, nat_tests, apart p [] back tt k.1)
apart p (q ∷ front) back h k e = grind (arith, nat_tests, apart p front back h.1 k)
