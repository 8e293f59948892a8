-- What is known of all classes, before a run and after each entry asked for.
use Rattle.krb_copy.proofs.Cited.{◌≡◌, ℕ, Bool, true, false, cond, List, [], ◌∷◌, ◌++◌, Option, Some, refl, arith, sym, ap, subst, ◌∙◌, map, filter, ◌||◌, list_any, bytes_eq, append-nil, list_any-append, EntryParts, are_twins, are_same, Held, as_found, as_copied, twins, There, Clash, step_of, with_copy, AreClasses, ClassKey, unwrap_or, map_push, is_kept, HaveClass, IsClass, IsClassKey, name_cmp, has_key, places_of, stays, step_at, BTreeMap, get, Updates, or_assoc, or-false, or-true, filter-append, Bor, Class, Empty, One}
use Rattle.krb_copy.proofs.Alike.{alike, apart, twins_equiv}
use Rattle.krb_copy.proofs.ClassKeys.{classes_agree}

-- ---- the twins of an entry

-- one more entry
twins_more : (y : EntryParts) (held : List Held) (h : Held) (t : Bool) → are_twins y h.entry ≡ t → twins y (held ++ h ∷ []) ≡ twins y held ++ cond t (h ∷ []) []
twins_more y held h t e = filter-append (λ (g : Held). are_twins y g.entry) held (h ∷ []) ∙ ap (λ (b : Bool). twins y held ++ cond b (h ∷ []) []) e

-- one more entry asked for has what is its own stay
kept_after : (before : List EntryParts) (x : EntryParts) (h : Held) → is_kept (before ++ x ∷ []) h ≡ (is_kept before h || are_same x h.entry)
kept_after before x h = rw (list_any-append (λ a. are_same a h.entry) before (x ∷ []), or-false (are_same x h.entry)) (sym (or_assoc h.is_copied _ _))

-- of its own twins
kept_twins : (before : List EntryParts) (x : EntryParts) (held : List Held) → list_any (is_kept (before ++ x ∷ [])) (twins x held) ≡ (list_any (is_kept before) (twins x held) || list_any (λ h. bytes_eq x.key h.entry.key) (twins x held))
kept_twins before x [] = refl
kept_twins before x (h ∷ held) = grind (arith, kept_after before x h, kept_twins before x held)

-- it changes nothing for others
kept_others : (before : List EntryParts) (x y : EntryParts) (held : List Held) → are_twins x y ≡ false → list_any (is_kept (before ++ x ∷ [])) (twins y held) ≡ list_any (is_kept before) (twins y held)
kept_others before x y [] other = refl
kept_others before x y (h ∷ held) other = grind (arith, kept_after before x h, apart x y h.entry other, kept_others before x y held other)

-- twins have the same twins
same_twins : (x y : EntryParts) (held : List Held) → are_twins x y ≡ true → twins x held ≡ twins y held
same_twins x y held twin = ap (λ (t : EntryParts → Bool). filter (λ h. t h.entry) held) (alike x y twin)

copy_alone : (x y : EntryParts) (held : List Held) (place : ℕ) → are_twins x y ≡ true → twins y (with_copy held x place) ≡ as_copied place x ∷ []
copy_alone x y [] place twin = grind (arith, twins_equiv.symm y x)
copy_alone x y (h ∷ held) place twin = grind (arith, twins_equiv.congr x y h.entry twin, copy_alone x y held place twin)

copy_apart : (x y : EntryParts) (held : List Held) (place : ℕ) → are_twins x y ≡ false → twins y (with_copy held x place) ≡ twins y held
copy_apart x y [] place other = grind (arith, twins_equiv.symm y x)
copy_apart x y (h ∷ held) place other = grind (arith, apart x y h.entry other, copy_apart x y held place other)

-- ---- one class

-- one more entry may have a key
pub or_added : (old b : Bool) → cond b true old ≡ (old || b)
or_added old b = grind arith

-- of one entry
of_one : {A : Type 0} (before : List EntryParts) (h : Held) (key : Bor (List ℕ)) (c : Class A) → places_of c ≡ h.place ∷ [] → ((k : List ℕ) → has_key c k ≡ bytes_eq k key.now) → key.now ≡ h.entry.key → stays c ≡ is_kept before h → IsClass before (h ∷ []) c
of_one before h key c places keys key_is kept = search (arith, or-false)

-- ---- one class of all

-- what a new class of an entry leaves of others
abbrev Leaves : List EntryParts → List EntryParts → List Held → List Held → EntryParts → Type 0
Leaves before before' held held' x = (y : EntryParts) → are_twins x y ≡ false → (twins y held' ≡ twins y held) × (list_any (is_kept before') (twins y held) ≡ list_any (is_kept before) (twins y held))

updated_by : {A : Type 0} (before before' : List EntryParts) (held held' : List Held) (x y : EntryParts) (c : Class A) (o : Option (Class A)) (t : Bool) → are_twins x y ≡ t → IsClass before' (twins x held') c → Leaves before before' held held' x
    → HaveClass before (twins y held) o → HaveClass before' (twins y held') (cond t (Some c) o)
updated_by before before' held held' x y c o t apart is leaves old = search (arith, same_twins, apart)

-- it leaves what stays of other classes
asked_leaves : (before : List EntryParts) (held : List Held) (x : EntryParts) → Leaves before (before ++ x ∷ []) held held x
asked_leaves before held x y apart = (refl, kept_others before x y held apart)

-- ---- an entry and its class

-- what is known of an entry: the key of its class, and the class
pub record IsMet {A : Type 0} (before : List EntryParts) (held : List Held) (x : EntryParts) (k : ClassKey) (old : BTreeMap ClassKey (Class A)) (class : Class A) : Type 0 where
  pub classes : AreClasses before held old
  pub of_x : IsClassKey x k
  pub is : IsClass before (twins x held) class

-- by what the map has at its key
pub met : {A : Type 0} {value : Option (Class A)} (before : List EntryParts) (held : List Held) (x : EntryParts) (k : ClassKey) (m : BTreeMap ClassKey (Class A)) (c : Class A) → AreClasses before held m → IsClassKey x k → value ≡ get name_cmp m k → c ≡ unwrap_or value Empty → IsMet before held x k m c
met before held x k m c classes of_x found is = record { classes = classes; of_x = of_x; is = subst (IsClass before (twins x held)) (sym is) (search arith) }

-- by the class of its twins
step_by : (replace : Bool) (before : List EntryParts) (held : List Held) (x : EntryParts) (b stays : Bool) (places : List ℕ) → b ≡ list_any (λ h. bytes_eq x.key h.entry.key) (twins x held) → stays ≡ list_any (is_kept before) (twins x held)
    → places ≡ map (λ h. h.place) (twins x held) → cond b There (step_at replace stays places) ≡ step_of replace before held x
step_by replace before held x b stays places keys kept are = rw (keys, kept, are) (ap (cond (list_any (λ h. bytes_eq x.key h.entry.key) (twins x held)) There) (search arith))

pub step_is : {A : Type 0} {before : List EntryParts} {held : List Held} {x : EntryParts} {k : ClassKey} {old : BTreeMap ClassKey (Class A)} {c : Class A} (replace : Bool) (key : List ℕ) → IsMet before held x k old c → key ≡ x.key → cond (has_key c key) There (step_at replace (stays c) (places_of c)) ≡ step_of replace before held x
step_is {A} {before} {held} {x} {k} {old} {c} replace key m same = step_by replace before held x (has_key c key) (stays c) (places_of c) (ap (has_key c) same ∙ m.is.keys x.key) m.is.kept m.is.places

not_there : (replace : Bool) (before : List EntryParts) (held : List Held) (x : EntryParts) (place : ℕ) → step_of replace before held x ≡ Clash place → list_any (λ h. bytes_eq x.key h.entry.key) (twins x held) ≡ false
not_there replace before held x place e = search arith

-- ---- after an entry

-- a map in which its class is set
module _ {A : Type 0} {before : List EntryParts} {held : List Held} {x : EntryParts} {k : ClassKey} {old new after : BTreeMap ClassKey (Class A)} {was : Class A} (c : Class A) (m : IsMet before held x k old was) (same : after ≡ new) (updates : Updates name_cmp old new k (Some c)) where
  -- others stay
  updated : (before' : List EntryParts) (held' : List Held) → IsClass before' (twins x held') c → Leaves before before' held held' x → AreClasses before' held' after
  updated before' held' is leaves y q of_y =
      subst (HaveClass before' (twins y held')) (sym (ap (λ n. get name_cmp n q) same ∙ updates.0 q ∙ ap (λ (b : Bool). cond b (Some c) (get name_cmp old q)) (classes_agree x y k q m.of_x of_y)))
      (updated_by before before' held held' x y c (get name_cmp old q) (are_twins x y) refl is leaves (m.classes y q of_y))

  -- it is there: one of its class stays
  pub after_there : (replace : Bool) → There ≡ step_of replace before held x → places_of c ≡ places_of was → ((key : List ℕ) → has_key c key ≡ has_key was key) → ((key : List ℕ) → has_key was key ≡ true → stays c ≡ true) → AreClasses (before ++ x ∷ []) held after
  after_there replace step places keys kept =
      let there : list_any (λ h. bytes_eq x.key h.entry.key) (twins x held) ≡ true = search (arith, step) in
      let one_stays : list_any (is_kept (before ++ x ∷ [])) (twins x held) ≡ true = kept_twins before x held ∙ ap (λ (b : Bool). list_any (is_kept before) (twins x held) || b) there ∙ or-true (list_any (is_kept before) (twins x held)) in
      updated (before ++ x ∷ []) held (record { places = places ∙ m.is.places; keys = λ key. keys key ∙ m.is.keys key; kept = kept x.key (m.is.keys x.key ∙ there) ∙ sym one_stays }) (asked_leaves before held x)

  -- it clashes: its class stays as it is
  pub after_clash : (replace : Bool) (twin : ℕ) → c ≡ was → Clash twin ≡ step_of replace before held x → AreClasses (before ++ x ∷ []) held after
  after_clash replace twin is step =
      let kept : list_any (is_kept (before ++ x ∷ [])) (twins x held) ≡ list_any (is_kept before) (twins x held) = kept_twins before x held ∙ ap (λ (b : Bool). list_any (is_kept before) (twins x held) || b) (not_there replace before held x twin (sym step)) ∙ or-false (list_any (is_kept before) (twins x held)) in
      updated (before ++ x ∷ []) held (subst (IsClass (before ++ x ∷ []) (twins x held)) (sym is) (record { places = m.is.places; keys = m.is.keys; kept = m.is.kept ∙ sym kept })) (asked_leaves before held x)

  -- it is copied: it is the only one of its class, and stays
  pub after_copy : (place : ℕ) (key : Bor (List ℕ)) → c ≡ One place key true → key.now ≡ x.key → AreClasses (before ++ x ∷ []) (with_copy held x place) after
  after_copy place key is key_is =
      updated (before ++ x ∷ []) (with_copy held x place)
      (subst (λ (hs : List Held). IsClass (before ++ x ∷ []) hs c) (sym (copy_alone x x held place (twins_equiv.refl x))) (of_one (before ++ x ∷ []) (as_copied place x) key c (ap places_of is) (λ q. ap (λ d. has_key d q) is) key_is (ap stays is)))
      (λ y apart. (copy_apart x y held place apart, kept_others before x y held apart))

-- it was there before the run
pub one_found : {A : Type 0} {held : List Held} {x : EntryParts} {k : ClassKey} {old new after : BTreeMap ClassKey (Class A)} {was : Class A} (c : Class A) (place : ℕ) (key : Bor (List ℕ)) → IsMet [] held x k old was → after ≡ new → Updates name_cmp old new k (Some c)
    → key.now ≡ x.key → places_of c ≡ places_of was ++ place ∷ [] → ((k : List ℕ) → has_key c k ≡ (has_key was k || bytes_eq k key.now)) → stays c ≡ stays was → AreClasses [] (held ++ as_found (place, x) ∷ []) after
one_found {A} {held} {x} {k} {old} {new} {after} {was} c place key m same updates key_is places keys kept =
    let h = as_found (place, x) in
    updated c m same updates [] (held ++ h ∷ []) (subst (λ (hs : List Held). IsClass [] hs c) (sym (twins_more x held h true (twins_equiv.refl x))) (search (arith, map_push, or-false, list_any-append)))
    (λ y apart. (twins_more y held h false (twins_equiv.symm y x ∙ apart) ∙ append-nil (twins y held), refl))
