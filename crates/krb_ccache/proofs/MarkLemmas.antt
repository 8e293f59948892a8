-- A credential that is marked in place.
use Rattle.krb_ccache.proofs.Cited.{IsSome, is_some_has, ◌≡◌, ℕ, ◌+◌, ◌<◌, ◌≤◌, Bool, true, false, List, [], ◌∷◌, ◌++◌, length, take, drop, map, Some, None, refl, sym, ap, ◌∙◌, append_assoc, length-append, arith, ◌==◌, find, splice, nat_tests, take_at, drop_at, take-append-drop, length-take, length-drop, Big, cc_principal, data32, IsBytes, IsBytes-drop, some_is, cc_principal_field, end_from, Version, CredParts, number32, typed_list, key, times, credential, credential_at, is_marked, FitsCredential, placed_from, live_of, if_live, store_cell, add_mark, add_mark_at, times_from}
use Rattle.krb_ccache.proofs.CredentialField.{credential_field}
use Rattle.krb_ccache.proofs.Fields.{key_field, three_first}
use Rattle.krb_ccache.proofs.CellLemmas.{end_is}

-- ---- one credential

-- what is before the times of a credential
abbrev pub before_times : Version → CredParts → List ℕ
before_times v c = cc_principal c.client ++ (cc_principal c.server ++ key v c.key)

-- what is after them
abbrev pub after_times : CredParts → List ℕ
after_times c = (c.is_skey ∷ []) ++ (number32 c.flags ++ (typed_list c.addresses ++ (typed_list c.authdata ++ (data32 Big c.ticket ++ data32 Big c.second_ticket))))

-- the spelling of a credential with these two times, which a mark writes
abbrev with_times : Version → CredParts → ℕ → ℕ → List ℕ
with_times v c authtime endtime = before_times v c ++ (number32 authtime ++ (number32 c.times.starttime ++ (number32 endtime ++ (number32 c.times.renew_till ++ after_times c))))

reassoc : (x y z a s e r b : List ℕ) → x ++ (y ++ (z ++ ((a ++ (s ++ (e ++ r))) ++ b))) ≡ (x ++ (y ++ z)) ++ (a ++ (s ++ (e ++ (r ++ b))))
reassoc x y z a s e r b = simp append_assoc

as_times : (v : Version) (c : CredParts) → credential v c ≡ with_times v c c.times.authtime c.times.endtime
as_times v c = reassoc (cc_principal c.client) (cc_principal c.server) (key v c.key) (number32 c.times.authtime) (number32 c.times.starttime) (number32 c.times.endtime) (number32 c.times.renew_till) (after_times c)

as_marked : (v : Version) (c : CredParts) → credential v (add_mark c) ≡ with_times v c 4294967295 0
as_marked v c = as_times v (add_mark c)

-- a mark keeps the length
pub marked_len : (v : Version) (c : CredParts) → length (credential v (add_mark c)) ≡ length (credential v c)
marked_len v c =
    let s = number32 c.times.starttime in
    let others = number32 c.times.renew_till ++ after_times c in
    omega (arith, ap length (as_times v c), ap length (as_times v (add_mark c)), length-append (before_times v c) (number32 4294967295 ++ (s ++ (number32 0 ++ others))), length-append (before_times v c) (number32 c.times.authtime ++ (s ++ (number32 c.times.endtime ++ others))))

-- a splice over a part of a list replaces that part
pub splice_part : (a x y b : List ℕ) (i j : ℕ) → i ≡ length a → j ≡ i + length x → splice (a ++ (x ++ b)) i j y ≡ a ++ (y ++ b)
splice_part a x y b i j is_i is_j =
    let front : take i (a ++ (x ++ b)) ≡ a = take_at a (x ++ b) i (sym is_i) in
    let back : drop j (a ++ (x ++ b)) ≡ b = ap (drop j) (sym (append_assoc a x b)) ∙ drop_at (a ++ x) b j (omega (arith, is_i, is_j, length-append a x)) in
    rw (front, back) refl

-- the times follow the names and the key
times_after : (v : Version) (c : CredParts) (rest : List ℕ) → FitsCredential v c → times_from v (before_times v c ++ rest) ≡ Some rest
unfolding times_from
times_after v c rest fits =
    ap (times_from v) (three_first (cc_principal c.client) (cc_principal c.server) (key v c.key) rest)
    ∙ rw (cc_principal_field.again c.client _ fits.client, cc_principal_field.again c.server _ fits.server, (key_field v).again c.key rest fits.key) refl

-- the parts of an image around the two times of a credential
pub record AroundTimes (v : Version) (image : List ℕ) (place : ℕ) (c : CredParts) (rest : List ℕ) : Type 0 where
  pub left : List ℕ
  pub is_left : times_from v (drop place image) ≡ Some left
  pub at : length image ≡ place + length (before_times v c) + length left
  pub parts : image ≡ (take place image ++ before_times v c) ++ (number32 c.times.authtime ++ (number32 c.times.starttime ++ (number32 c.times.endtime ++ (number32 c.times.renew_till ++ (after_times c ++ rest)))))
  pub room : 16 ≤ length left
  pub whole : image ≡ take place image ++ (credential v c ++ rest)

split_times : (f a s e r b rest : List ℕ) → (f ++ (a ++ (s ++ (e ++ (r ++ b))))) ++ rest ≡ f ++ (a ++ (s ++ (e ++ (r ++ (b ++ rest)))))
split_times f a s e r b rest = simp append_assoc

pub around : (v : Version) (image : List ℕ) (place : ℕ) (c : CredParts) (rest : List ℕ) → IsBytes image → place ≤ length image → credential_at v (drop place image) ≡ Some (c, rest) → AroundTimes v image place c rest
around v image place c rest fits le e =
    let t = (credential_field v).takes (drop place image) (c, rest) (IsBytes-drop place image fits) e in
    let f = before_times v c in
    let left = number32 c.times.authtime ++ (number32 c.times.starttime ++ (number32 c.times.endtime ++ (number32 c.times.renew_till ++ (after_times c ++ rest)))) in
    let split : drop place image ≡ f ++ left =
    t.0.parts ∙ ap (λ (x : List ℕ). x ++ rest) (as_times v c) ∙ split_times f (number32 c.times.authtime) (number32 c.times.starttime) (number32 c.times.endtime) (number32 c.times.renew_till) (after_times c) rest in
    let whole : image ≡ take place image ++ drop place image = sym (take-append-drop place image) in
    record {
      left = left;
      is_left = ap (times_from v) split ∙ times_after v c left t.1;
      at = omega (arith, ap length split, length-append f left, length-drop place image, le);
      room = omega arith;
      parts = whole ∙ ap (λ (x : List ℕ). take place image ++ x) split ∙ sym (append_assoc (take place image) f left);
      whole = whole ∙ ap (λ (x : List ℕ). take place image ++ x) t.0.parts;
    }

group_back : (p f a s e r b rest : List ℕ) → ((p ++ f) ++ a) ++ s ++ (e ++ (r ++ (b ++ rest))) ≡ p ++ ((f ++ (a ++ (s ++ (e ++ (r ++ b))))) ++ rest)
group_back p f a s e r b rest = simp append_assoc

-- writing the two times marks the credential
pub marked_is : (v : Version) (image mid new : List ℕ) (place at i j k : ℕ) (c : CredParts) (rest : List ℕ) → AroundTimes v image place c rest → place ≤ length image → at ≡ place + length (before_times v c) → i ≡ at + 4 → j ≡ at + 8 → k ≡ j + 4
    → mid ≡ splice image at i (number32 4294967295) → new ≡ splice mid j k (number32 0) → new ≡ splice image place (place + length (credential v c)) (credential v (add_mark c))
marked_is v image mid new place at i j k c rest w le is_at is_i is_j is_k first second =
    let p = take place image in
    let x = p ++ before_times v c in
    let s = number32 c.times.starttime in
    let e = number32 c.times.endtime in
    let others = number32 c.times.renew_till ++ (after_times c ++ rest) in
    let ff = number32 4294967295 in
    let len : length x ≡ at = omega (arith, length-take place image, le, length-append p (before_times v c), is_at) in
    let mid_is : mid ≡ ((x ++ ff) ++ s) ++ (e ++ others) = first ∙ ap (λ (b : List ℕ). splice b at i ff) w.parts ∙ splice_part x (number32 c.times.authtime) ff (s ++ (e ++ others)) at i (sym len) is_i ∙ (simp append_assoc) in
    let new_is : new ≡ ((x ++ ff) ++ s) ++ (number32 0 ++ others) = second ∙ ap (λ (b : List ℕ). splice b j k (number32 0)) mid_is ∙ splice_part ((x ++ ff) ++ s) e (number32 0) others j k (omega (arith, is_j, len, length-append (x ++ ff) s, length-append x ff)) is_k in
    let put : splice image place (place + length (credential v c)) (credential v (add_mark c)) ≡ p ++ (credential v (add_mark c) ++ rest) =
    ap (λ (b : List ℕ). splice b place (place + length (credential v c)) (credential v (add_mark c))) w.whole ∙ splice_part p (credential v c) (credential v (add_mark c)) rest place (place + length (credential v c)) (omega (arith, length-take place image, le)) refl in
    new_is ∙ group_back p (before_times v c) ff s (number32 0) (number32 c.times.renew_till) (after_times c) rest ∙ ap (λ (b : List ℕ). p ++ (b ++ rest)) (sym (as_marked v c)) ∙ sym put

-- ---- a credential among others

-- a live credential is at a place
pub record IsAt (v : Version) (at : ℕ) (cs : List CredParts) (p : ℕ) (c : CredParts) : Type 0 where
  pub before : List CredParts
  pub after : List CredParts
  pub place : p ≡ end_from at (map (store_cell v) before)
  pub parts : cs ≡ before ++ c ∷ after
  pub live : is_marked c ≡ false

live_is : (c d : CredParts) (b : Bool) → is_marked d ≡ b → if_live d ≡ Some c → (d ≡ c) × (is_marked d ≡ false)
live_is c d b e is = search (arith, some_is)

is_at_cons : (v : Version) (at p : ℕ) (d : CredParts) (cs : List CredParts) (c : CredParts) (b : Bool) → (at == p) ≡ b → (live_of (find (λ x. x.0 == p) (placed_from v (at + length (credential v d)) cs)) ≡ Some c → IsAt v (at + length (credential v d)) cs p c)
    → live_of (find (λ x. x.0 == p) (placed_from v at (d ∷ cs))) ≡ Some c → IsAt v at (d ∷ cs) p c
is_at_cons v at p d cs c true e ih is =
    let found : find (λ x. x.0 == p) (placed_from v at (d ∷ cs)) ≡ Some (at, d) = rw e refl in
    let live = live_is c d (is_marked d) refl (sym (ap live_of found) ∙ is) in
    record { before = []; after = cs; place = grind (arith, nat_tests); parts = ap (λ (x : CredParts). x ∷ cs) live.0; live = ap is_marked (sym live.0) ∙ live.1 }
is_at_cons v at p d cs c false e ih is =
    let rest = ih (rw e at is) in
    record { before = d ∷ rest.before; after = rest.after; place = rest.place; parts = ap (λ (xs : List CredParts). d ∷ xs) rest.parts; live = rest.live }

pub found_at : (v : Version) (at p : ℕ) (cs : List CredParts) (c : CredParts) → live_of (find (λ x. x.0 == p) (placed_from v at cs)) ≡ Some c → IsAt v at cs p c
found_at v at p [] c is = absurd cc
found_at v at p (d ∷ cs) c is = is_at_cons v at p d cs c (at == p) refl (found_at v (at + length (credential v d)) p cs c) is

pub unmarked_by : (v : Version) (at p : ℕ) (c : CredParts) (cs : List CredParts) → (at == p) ≡ false → add_mark_at v at p (c ∷ cs) ≡ c ∷ add_mark_at v (at + length (credential v c)) p cs
unmarked_by v at p c cs e = rw e refl

-- a mark leaves the credentials after its place unchanged
pub unmarked_after : (v : Version) (at p : ℕ) (cs : List CredParts) → p < at → add_mark_at v at p cs ≡ cs
unmarked_after v at p [] lt = refl
unmarked_after v at p (c ∷ cs) lt = search (arith, unmarked_by, unmarked_after v (at + length (credential v c)) p cs)

pub marked_one : (v : Version) (at p : ℕ) (before after : List CredParts) (c : CredParts) → p ≡ end_from at (map (store_cell v) before) → add_mark_at v at p (before ++ c ∷ after) ≡ before ++ add_mark c ∷ after
marked_one v at p [] after c is = search (arith, unmarked_after, credential_field)
marked_one v at p (d ∷ before) after c is = search (arith, credential_field, unmarked_by, end_is, marked_one v (at + length (credential v d)) p before after c is)

-- ---- what was found

-- the times that were found are those of the credential
pub times_left : (v : Version) (image bytes times : List ℕ) (place : ℕ) (c : CredParts) (rest : List ℕ) → AroundTimes v image place c rest → bytes ≡ drop place image → times_from v bytes ≡ Some times → (length image ≡ place + length (before_times v c) + length times) × (16 ≤ length times)
times_left v image bytes times place c rest w same found = search (arith, some_is)

pub times_there : (v : Version) (image bytes : List ℕ) (place : ℕ) (c : CredParts) (rest : List ℕ) → AroundTimes v image place c rest → bytes ≡ drop place image → times_from v bytes ≡ None → ⊥
times_there v image bytes place c rest w same none = let e = sym w.is_left ∙ ap (times_from v) (sym same) ∙ none in absurd cc

-- there is room for both times
pub times_room : (v : Version) (image bytes times : List ℕ) (place : ℕ) → IsBytes image → place ≤ length image → IsSome (credential_at v (drop place image)) → bytes ≡ drop place image → times_from v bytes ≡ Some times → (length times ≤ length image) × (16 ≤ length times)
times_room v image bytes times place fits within there same found =
    let s = is_some_has _ there in
    let t = times_left v image bytes times place s.0.0 s.0.1 (around v image place s.0.0 s.0.1 fits within s.1) same found in
    (omega (arith, t.0), t.1)

pub times_here : (v : Version) (image bytes : List ℕ) (place : ℕ) → IsBytes image → place ≤ length image → IsSome (credential_at v (drop place image)) → bytes ≡ drop place image → times_from v bytes ≡ None → ⊥
times_here v image bytes place fits within there same none =
    let s = is_some_has _ there in
    times_there v image bytes place s.0.0 s.0.1 (around v image place s.0.0 s.0.1 fits within s.1) same none
