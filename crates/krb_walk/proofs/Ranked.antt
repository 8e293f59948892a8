-- Each record comes as it is due, along a track on which the store may be rewritten.
use Rattle.krb_walk.proofs.Cited.{◌≡◌, ℕ, zero, suc, ◌<◌, ◌≤◌, Bool, true, false, cond, List, [], ◌∷◌, ◌++◌, length, map, take, drop, Option, Some, None, inl, inr, refl, sym, ap, ◌∙◌, subst, arith, ◌==◌, ◌⊎◌, list_any, nat_tests, Store, IsSound, live_places, rank, Changes, ReplyContent, Placed, Gone, Rewritten, RecordName, first_names, names_after, carry_by, is_name, place_among, length-map, length-append, length-take, length-drop}
use Rattle.krb_walk.proofs.Lives.{puts_insert, cuts_insert}
use Rattle.krb_walk.proofs.Names.{AreBorn, born_after, first_born}
use Rattle.krb_walk.proofs.Carries.{Rises, places_rise, SameSide, carry_same_side, still_some}

-- names of which no two are the same
abbrev pub AreDistinct : List RecordName → Type 0
AreDistinct [] = Unit {0}
AreDistinct (x ∷ names) = (list_any (is_name x) names ≡ false) × AreDistinct names

younger : (r x : RecordName) → r.birth < x.birth → is_name r x ≡ false
younger r x lt = let e : (r.birth == x.birth) ≡ false = grind (arith, nat_tests) in search arith

pub unborn : (n : ℕ) (r : RecordName) (names : List RecordName) → AreBorn n names → n ≤ r.birth → list_any (is_name r) names ≡ false
unborn n r [] h le = refl
unborn n r (x ∷ names) h le = grind (arith, nat_tests, unborn n r names h.1 le)

pub among_none : (r : RecordName) (names : List RecordName) (ps : List ℕ) → list_any (is_name r) names ≡ false → place_among r names ps ≡ None
among_none r [] ps e = refl
among_none r (x ∷ names) [] e = refl
among_none r (x ∷ names) (p ∷ ps) e = search (arith, among_none r names ps (search arith))

any_insert : (f : RecordName → Bool) (k : ℕ) (names : List RecordName) (nm : RecordName) → f nm ≡ false → list_any f names ≡ false → list_any f (take k names ++ nm ∷ drop k names) ≡ false
any_insert f zero names nm e h = search arith
any_insert f (suc k) [] nm e h = search arith
any_insert f (suc k) (x ∷ names) nm e h = search (arith, any_insert f k names nm e (search arith))

any_remove : (f : RecordName → Bool) (k : ℕ) (names : List RecordName) → list_any f names ≡ false → list_any f (take k names ++ drop (suc k) names) ≡ false
any_remove f zero [] h = refl
any_remove f zero (x ∷ names) h = search arith
any_remove f (suc k) [] h = refl
any_remove f (suc k) (x ∷ names) h = search (arith, any_remove f k names (search arith))

distinct_insert : (n p k : ℕ) (names : List RecordName) → AreDistinct names → AreBorn n names → AreDistinct (take k names ++ record { place = p; birth = n } ∷ drop k names)
distinct_insert n p zero names d h = (unborn n (record { place = p; birth = n }) names h (omega arith), d)
distinct_insert n p (suc k) [] d h = (refl, tt)
distinct_insert n p (suc k) (x ∷ names) d h = (any_insert (is_name x) k names (record { place = p; birth = n }) (younger x (record { place = p; birth = n }) h.0) d.0, distinct_insert n p k names d.1 h.1)

distinct_remove : (k : ℕ) (names : List RecordName) → AreDistinct names → AreDistinct (take k names ++ drop (suc k) names)
distinct_remove zero [] d = tt
distinct_remove zero (x ∷ names) d = d.1
distinct_remove (suc k) [] d = tt
distinct_remove (suc k) (x ∷ names) d = (any_remove (is_name x) k names d.0, distinct_remove k names d.1)

first_apart : (p lo end : ℕ) (ps : List ℕ) → p < lo → Rises lo ps end → list_any (is_name (record { place = p; birth = 0 })) (map {A = ℕ} {B = RecordName} (λ q. record { place = q; birth = 0 }) ps) ≡ false
first_apart p lo end [] lt h = refl
first_apart p lo end (q ∷ ps) lt h = search (arith, first_apart p (suc q) end ps (omega (arith, h.0)) h.1)

first_distinct_of : (lo end : ℕ) (ps : List ℕ) → Rises lo ps end → AreDistinct (map {A = ℕ} {B = RecordName} (λ p. record { place = p; birth = 0 }) ps)
first_distinct_of lo end [] h = tt
first_distinct_of lo end (p ∷ ps) h = (first_apart p (suc p) end ps (omega arith) h.1, first_distinct_of (suc p) end ps h.1)

-- lengths
len_insert : (front back : List ℕ) (p : ℕ) (nm : RecordName) (names : List RecordName) → length names ≡ length (front ++ back) → length (take (length front) names ++ nm ∷ drop (length front) names) ≡ length (front ++ p ∷ back)
len_insert front back p nm names e = search (arith, length-append, length-take, length-drop)

len_remove : (front back : List ℕ) (p : ℕ) (names : List RecordName) → length names ≡ length (front ++ p ∷ back) → length (take (length front) names ++ drop (suc (length front)) names) ≡ length (front ++ back)
len_remove front back p names e = search (arith, length-append, length-take, length-drop)

-- names that fit the live cells: as many, all born, and no two the same
pub record Keeps (n : ℕ) (s : Store) (names : List RecordName) : Type 0 where
  pub as_many : length names ≡ length (live_places s)
  pub born : AreBorn n names
  pub distinct : AreDistinct names

pub first_keeps : (s : Store) → IsSound s → Keeps 1 s (first_names s)
first_keeps s sound = search (arith, length-map, first_born, first_distinct_of, places_rise)

pub keeps_after : (n : ℕ) (content : ReplyContent) (old new : Store) (names : List RecordName) → IsSound old → Changes content old new → Keeps n old names → Keeps (suc n) new (names_after n content old new names)
keeps_after n (Placed p) old new names sound h k =
    let i = puts_insert old new p sound h in
    let nm : RecordName = record { place = p; birth = n } in
    record {
      as_many = ap (λ (j : ℕ). length (take j names ++ nm ∷ drop j names)) i.rank_is ∙ len_insert i.front i.back p nm names (k.as_many ∙ ap length i.lo_is) ∙ sym (ap length i.hi_is);
      born = born_after n (Placed p) old new names k.born;
      distinct = distinct_insert n p (rank new p) names k.distinct k.born;
    }
keeps_after n (Gone p) old new names sound h k =
    let i = cuts_insert old new p sound h in
    record {
      as_many = ap (λ (j : ℕ). length (take j names ++ drop (suc j) names)) i.rank_is ∙ len_remove i.front i.back p names (k.as_many ∙ ap length i.hi_is) ∙ sym (ap length i.lo_is);
      born = born_after n (Gone p) old new names k.born;
      distinct = distinct_remove (rank old p) names k.distinct;
    }
keeps_after n (Rewritten p) old new names sound h k = record { as_many = k.as_many ∙ sym h.as_many; born = born_after n (Rewritten p) old new names k.born; distinct = k.distinct }
keeps_after n content old new names sound h k = record { as_many = k.as_many ∙ sym (ap (λ (s : Store). length (live_places s)) h); born = born_after n content old new names k.born; distinct = k.distinct }

-- a record had a place and has one, on the same side of a cursor
pub record Still (was is : Option ℕ) (c d : ℕ) : Type 0 where
  pub p : ℕ
  pub q : ℕ
  pub was_at : was ≡ Some p
  pub is_at : is ≡ Some q
  pub side : SameSide c d p q

same_still : (was is : Option ℕ) (c : ℕ) → is ≡ was → (is ≡ None) ⊎ Still was is c c
same_still was None c e = inl refl
same_still was (Some p) c e = inr (record { p = p; q = p; was_at = sym e; is_at = refl; side = record { on = λ h. h; back = λ h. h } })

among_insert : (r nm : RecordName) (p : ℕ) (front back : List ℕ) (names : List RecordName) → is_name r nm ≡ false → length names ≡ length (front ++ back) → place_among r (take (length front) names ++ nm ∷ drop (length front) names) (front ++ p ∷ back) ≡ place_among r names (front ++ back)
among_insert r nm p [] back names diff e = ap (λ (b : Bool). cond b (Some p) (place_among r names back)) diff
among_insert r nm p (q ∷ front) back [] diff e = absurd (omega (arith, e))
among_insert r nm p (q ∷ front) back (x ∷ names) diff e = ap (λ (o : Option ℕ). cond (is_name r x) (Some q) o) (among_insert r nm p front back names diff (let s : length names ≡ length (front ++ back) = omega (arith, e) in s))

among_removed : (r x : RecordName) (p : ℕ) (b : Bool) (names : List RecordName) (back : List ℕ) → is_name r x ≡ b → list_any (is_name x) names ≡ false → (place_among r names back ≡ None) ⊎ (place_among r names back ≡ cond b (Some p) (place_among r names back))
among_removed r x p true names back e d = let same : r ≡ x = search arith in inl (among_none r names back (subst (λ (y : RecordName). list_any (is_name y) names ≡ false) (sym same) d))
among_removed r x p false names back e d = inr refl

among_later : (b : Bool) (q : ℕ) (after before : Option ℕ) → (after ≡ None) ⊎ (after ≡ before) → (cond b (Some q) after ≡ None) ⊎ (cond b (Some q) after ≡ cond b (Some q) before)
among_later b q after before h = search arith

pub among_remove : (r : RecordName) (p : ℕ) (front back : List ℕ) (names : List RecordName) → AreDistinct names → length names ≡ length (front ++ p ∷ back)
    → (place_among r (take (length front) names ++ drop (suc (length front)) names) (front ++ back) ≡ None) ⊎ (place_among r (take (length front) names ++ drop (suc (length front)) names) (front ++ back) ≡ place_among r names (front ++ p ∷ back))
among_remove r p [] back [] d e = absurd (omega (arith, e))
among_remove r p [] back (x ∷ names) d e = among_removed r x p (is_name r x) names back refl d.0
among_remove r p (q ∷ front) back [] d e = absurd (omega (arith, e))
among_remove r p (q ∷ front) back (x ∷ names) d e = among_later (is_name r x) q _ _ (among_remove r p front back names d.1 (let s : length names ≡ length (front ++ p ∷ back) = omega (arith, e) in s))

rewrite_still : (r : RecordName) (old new : Store) (names : List RecordName) (c d : ℕ) (was is : Option ℕ) → place_among r names (live_places old) ≡ was → place_among r names (live_places new) ≡ is → length (live_places new) ≡ length (live_places old)
    → ((p q : ℕ) → was ≡ Some p → is ≡ Some q → SameSide c d p q) → (is ≡ None) ⊎ Still was is c d
rewrite_still r old new names c d was is a b e side = search (arith, still_some)

-- an event keeps a record on its side of each cursor, or the record is gone
pub still_after : (n : ℕ) (content : ReplyContent) (old new : Store) (names : List RecordName) (r : RecordName) (c : ℕ) → IsSound old → Changes content old new → Keeps n old names → r.birth < n
    → (place_among r (names_after n content old new names) (live_places new) ≡ None) ⊎ Still (place_among r names (live_places old)) (place_among r (names_after n content old new names) (live_places new)) c (carry_by content old new c)
still_after n (Placed p) old new names r c sound h k lt =
    let i = puts_insert old new p sound h in
    let nm : RecordName = record { place = p; birth = n } in
    same_still _ _ c
    (ap (λ (j : ℕ). place_among r (take j names ++ nm ∷ drop j names) (live_places new)) i.rank_is ∙ ap (place_among r (take (length i.front) names ++ nm ∷ drop (length i.front) names)) i.hi_is
    ∙ among_insert r nm p i.front i.back names (younger r nm lt) (k.as_many ∙ ap length i.lo_is) ∙ sym (ap (place_among r names) i.lo_is))
still_after n (Gone p) old new names r c sound h k lt =
    let i = cuts_insert old new p sound h in
    let now = ap (λ (j : ℕ). place_among r (take j names ++ drop (suc j) names) (live_places new)) i.rank_is ∙ ap (place_among r (take (length i.front) names ++ drop (suc (length i.front)) names)) i.lo_is in
    elim (among_remove r p i.front i.back names k.distinct (k.as_many ∙ ap length i.hi_is)) [
      | inl none ↦ inl (now ∙ none)
      | inr same ↦ same_still _ _ c (now ∙ same ∙ sym (ap (place_among r names) i.hi_is))
    ]
still_after n (Rewritten e) old new names r c sound h k lt = rewrite_still r old new names c _ _ _ refl refl h.as_many (λ p q was is. carry_same_side r old new names c p q sound h was is)
still_after n content old new names r c sound h k lt = same_still _ _ c (ap (λ (s : Store). place_among r names (live_places s)) h)
