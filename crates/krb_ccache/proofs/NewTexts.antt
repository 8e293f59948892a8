-- The new texts of credentials in a rewrite.
use Rattle.krb_ccache.proofs.Cited.{IsSome, is_some_has, ◌≡◌, ℕ, ◌+◌, ◌-◌, ◌<◌, ◌≤◌, false, List, [], ◌∷◌, ◌++◌, length, take, drop, Some, None, refl, sym, ap, ◌∙◌, append_assoc, length-append, arith, flat_map, w16, append-nil, take_at, drop_at, drop-drop, Big, digits, data32, cc_principal, IsBytes, some_is, wide16, cc_principal_field, Contents, Version, V3, V4, CredParts, number32, typed_list, times, credential, credential_at, is_marked, FitsCredential, in_version_4, new_cells, new_text, new_texts, after_first_enctype, ReadsNewText}
use Rattle.krb_ccache.proofs.CredentialField.{credential_field}
use Rattle.krb_ccache.proofs.Fields.{field16, three_first}
use Rattle.krb_ccache.proofs.CellLemmas.{read_one, read_left, read_none}

-- ---- one after the other

pub new_texts_first : (v : Version) (bytes : List ℕ) (c : CredParts) (after : List ℕ) → IsBytes bytes → credential_at v bytes ≡ Some (c, after) → new_texts v bytes ≡ new_text c ++ new_texts v after
new_texts_first v bytes c after fits e = ap (flat_map new_text) (read_one v bytes c after fits e).cells

pub new_texts_none : (v : Version) (bytes : List ℕ) → IsBytes bytes → credential_at v bytes ≡ None → new_texts v bytes ≡ []
new_texts_none v bytes fits e = ap (λ (k : Contents CredParts (List ℕ)). flat_map new_text k.cells) (read_none v bytes fits e)

pub flat_new_texts : (cs : List CredParts) → flat_map new_text cs ≡ flat_map (credential V4) (new_cells cs)
flat_new_texts [] = refl
flat_new_texts (c ∷ cs) = search (arith, flat_new_texts cs)

pub live_text : (c : CredParts) → is_marked c ≡ false → credential V4 (in_version_4 c) ≡ new_text c
live_text c e = rw e refl

-- ---- the second enctype

-- what is before it, and after it
abbrev pub before_second : CredParts → List ℕ
before_second c = cc_principal c.client ++ (cc_principal c.server ++ digits Big w16 c.key.enctype)

abbrev pub after_second : CredParts → List ℕ
after_second c = data32 Big c.key.bytes ++ (times c.times ++ ((c.is_skey ∷ []) ++ (number32 c.flags ++ (typed_list c.addresses ++ (typed_list c.authdata ++ (data32 Big c.ticket ++ data32 Big c.second_ticket))))))

group_three : (a b e n d t : List ℕ) → a ++ (b ++ ((e ++ (n ++ d)) ++ t)) ≡ (a ++ (b ++ e)) ++ (n ++ (d ++ t))
group_three a b e n d t = simp append_assoc

three_parts : (c : CredParts) → credential V3 c ≡ before_second c ++ (digits Big w16 c.key.second_enctype ++ after_second c)
three_parts c = group_three (cc_principal c.client) (cc_principal c.server) (digits Big w16 c.key.enctype) (digits Big w16 c.key.second_enctype) (data32 Big c.key.bytes) _

group_two : (a b e d t : List ℕ) → (a ++ (b ++ e)) ++ (d ++ t) ≡ a ++ (b ++ ((e ++ d) ++ t))
group_two a b e d t = simp append_assoc

two_parts : (c : CredParts) → before_second c ++ after_second c ≡ credential V4 (in_version_4 c)
two_parts c = group_two (cc_principal c.client) (cc_principal c.server) (digits Big w16 c.key.enctype) (data32 Big c.key.bytes) _

after_first : (c : CredParts) (rest : List ℕ) → FitsCredential V3 c → after_first_enctype (before_second c ++ rest) ≡ Some rest
unfolding after_first_enctype
after_first c rest fits =
    ap after_first_enctype (three_first (cc_principal c.client) (cc_principal c.server) (digits Big w16 c.key.enctype) rest)
    ∙ rw (cc_principal_field.again c.client _ fits.client, cc_principal_field.again c.server _ fits.server, field16.again c.key.enctype rest fits.key.enctype) refl

-- the parts of a version 3 credential around its second enctype
pub record AroundSecondEnctype (text : List ℕ) (c : CredParts) (rest : List ℕ) : Type 0 where
  pub left : List ℕ
  pub is_left : after_first_enctype text ≡ Some left
  pub at : length text ≡ length (before_second c) + length left
  pub room : 2 ≤ length left
  pub front : take (length (before_second c)) text ≡ before_second c
  pub back : drop (length (before_second c) + 2) text ≡ after_second c ++ rest

pub around_second : (text : List ℕ) (c : CredParts) (rest : List ℕ) → IsBytes text → credential_at V3 text ≡ Some (c, rest) → AroundSecondEnctype text c rest
around_second text c rest fits e =
    let t = (credential_field V3).takes text (c, rest) fits e in
    let f = before_second c in
    let n = digits Big w16 c.key.second_enctype in
    let left = n ++ (after_second c ++ rest) in
    let parts : text ≡ f ++ left = t.0.parts ∙ ap (λ (x : List ℕ). x ++ rest) (three_parts c) ∙ append_assoc f (n ++ after_second c) rest ∙ ap (λ (x : List ℕ). f ++ x) (append_assoc n (after_second c) rest) in
    record {
      left = left;
      is_left = ap after_first_enctype parts ∙ after_first c left t.1;
      at = ap length parts ∙ length-append f left;
      room = omega (arith, length-append n (after_second c ++ rest), (wide16 Big).len c.key.second_enctype);
      front = ap (take (length f)) parts ∙ take_at f left (length f) refl;
      back = sym (drop-drop 2 (length f) text) ∙ ap (λ (x : List ℕ). drop 2 (drop (length f) x)) parts ∙ ap (drop 2) (drop_at f left (length f) refl) ∙ drop_at n (after_second c ++ rest) 2 ((wide16 Big).len c.key.second_enctype);
    }

pub whole_without : (c : CredParts) (a b : List ℕ) → a ≡ before_second c → b ≡ after_second c ++ [] → a ++ b ≡ credential V4 (in_version_4 c)
whole_without c a b is_a is_b = rw (is_a, is_b) (ap (λ (t : List ℕ). before_second c ++ t) (append-nil (after_second c)) ∙ two_parts c)

-- a version 4 credential is written unchanged
pub whole_same : (text : List ℕ) (c : CredParts) → IsBytes text → credential_at V4 text ≡ Some (c, []) → text ≡ credential V4 (in_version_4 c)
whole_same text c fits e = ((credential_field V4).takes text (c, []) fits e).0.parts ∙ append-nil (credential V4 c)

pub second_left : (text left : List ℕ) (c : CredParts) (rest : List ℕ) → AroundSecondEnctype text c rest → after_first_enctype text ≡ Some left → (length text ≡ length (before_second c) + length left) × (2 ≤ length left)
second_left text left c rest w found = search (arith, some_is)

pub second_there : (text : List ℕ) (c : CredParts) (rest : List ℕ) → AroundSecondEnctype text c rest → after_first_enctype text ≡ None → ⊥
second_there text c rest w none = search arith

-- ---- the bytes of the first credential

pub record FirstText (v : Version) (bytes after : List ℕ) (c : CredParts) : Type 0 where
  pub len : length bytes ≡ length (credential v c) + length after
  pub taken : take (length bytes - length after) bytes ≡ credential v c
  pub again : credential_at v (take (length bytes - length after) bytes) ≡ Some (c, [])

pub first_text : (v : Version) (bytes : List ℕ) (c : CredParts) (after : List ℕ) → IsBytes bytes → credential_at v bytes ≡ Some (c, after) → FirstText v bytes after c
first_text v bytes c after fits e =
    let t = (credential_field v).takes bytes (c, after) fits e in
    let len = ap length t.0.parts ∙ length-append (credential v c) after in
    let taken : take (length bytes - length after) bytes ≡ credential v c = ap (take (length bytes - length after)) t.0.parts ∙ take_at (credential v c) after (length bytes - length after) (omega arith) in
    record { len = len; taken = taken; again = rw (taken, ← append-nil (credential v c)) ((credential_field v).again c [] t.1) }

-- ---- one step

pub record NewTextsStep (v : Version) (bytes put after : List ℕ) : Type 0 where
  pub cut : new_texts v bytes ≡ put ++ new_texts v after
  pub len : length (new_texts v bytes) ≡ length put + length (new_texts v after)
  pub fits : IsBytes after
  pub less : length after < length bytes

pub new_texts_step : (v : Version) (bytes put after : List ℕ) → IsBytes bytes → ReadsNewText v bytes put after → NewTextsStep v bytes put after
new_texts_step v bytes put after fits t = search (arith, new_texts_first, length-append, read_left)

-- there is room for the second enctype
pub second_room : (v : Version) (text left : List ℕ) → v ≡ V3 → IsBytes text → IsSome (credential_at v text) → after_first_enctype text ≡ Some left → (length left ≤ length text) × (2 ≤ length left)
second_room v text left is fits there found =
    let s = is_some_has _ there in
    let t = second_left text left s.0.0 s.0.1 (around_second text s.0.0 s.0.1 fits (ap (λ (w : Version). credential_at w text) (sym is) ∙ s.1)) found in
    (omega (arith, t.0), t.1)

pub second_here : (v : Version) (text : List ℕ) → v ≡ V3 → IsBytes text → IsSome (credential_at v text) → after_first_enctype text ≡ None → ⊥
second_here v text is fits there none =
    let s = is_some_has _ there in
    second_there text s.0.0 s.0.1 (around_second text s.0.0 s.0.1 fits (ap (λ (w : Version). credential_at w text) (sym is) ∙ s.1)) none
