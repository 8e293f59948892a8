-- Names that are missing, as the code holds them, and as the definitions have them.
use Rattle.krb_audit.proofs.Cited.{◌≡◌, ℕ, Bool, true, false, cond, List, [], ◌∷◌, ◌++◌, sym, ap, subst, ◌∙◌, ◌||◌, not, filter, fold, list_any, list_any-append, map, map_push, append-nil, bytes_eq, PlacedEntry, ◌<◌, ◌+◌, arith, take, get_or, length, vec_items, Parts, get_or-map, length-map, take_more, filter-append, list_any_at, nat_list_eq_equiv, bytes_eq-Decides, Vec, Bor, name_text, AreMarked, is_among, added_once, prints_as}
use Rattle.std.proofs.lemmas.List.Sums.{fold-append}
use Rattle.krb_names.specs.declared.marks.NameMarks.{NameMarks}

-- the name of some entry prints as that text
abbrev pub seen_in : List PlacedEntry → List ℕ → Bool
seen_in xs text = list_any (prints_as text) xs

-- ---- one more entry

seen_more : (before : List PlacedEntry) (x : PlacedEntry) (name : Parts) (text : List ℕ) → name ≡ x.1.principal → (seen_in before text || bytes_eq (name_text name) text) ≡ seen_in (before ++ x ∷ []) text
seen_more before x name text is = grind (arith, is, list_any-append (prints_as text) before (x ∷ []))

pub seen_next : (before : List PlacedEntry) (x : PlacedEntry) (name : Parts) → name ≡ x.1.principal → (λ text. seen_in before text || bytes_eq (name_text name) text) ≡ seen_in (before ++ x ∷ [])
seen_next before x name is i text = seen_more before x name text is i

-- ---- what is missing

-- the texts of some references
abbrev pub texts_of : List (Bor (List ℕ)) → List (List ℕ)
texts_of ts = map (λ t. t.now) ts

-- those of some texts that were not seen, each once
abbrev pub missing_of : (List ℕ → Bool) → List (List ℕ) → List (List ℕ)
missing_of seen texts = filter (λ text. not (seen text)) (fold added_once [] texts)

among_added : (texts : List (List ℕ)) (text other : List ℕ) (b : Bool) → is_among texts text ≡ b → is_among (cond b texts (texts ++ text ∷ [])) other ≡ (is_among texts other || bytes_eq other text)
among_added texts text other b among = search (arith, bytes_eq-Decides, list_any-append)

or_more : (a b c : Bool) → ((a || b) || c) ≡ (a || (b || c))
or_more a b c = grind arith

-- each once, they are the same
among_once : (once texts : List (List ℕ)) (other : List ℕ) → is_among (fold added_once once texts) other ≡ (is_among once other || is_among texts other)
among_once once [] other = grind arith
among_once once (text ∷ texts) other = search (arith, among_added, or_more, among_once (added_once once text) texts other)

added_by : (seen : List ℕ → Bool) (once : List (List ℕ)) (text : List ℕ) (s b : Bool) → seen text ≡ s → filter (λ t. not (seen t)) (cond b once (once ++ text ∷ [])) ≡ cond (s || b) (filter (λ t. not (seen t)) once) (filter (λ t. not (seen t)) once ++ text ∷ [])
added_by seen once text s true e = grind arith
added_by seen once text s false e = grind (arith, e, filter-append (λ t. not (seen t)) once (text ∷ []), append-nil (filter (λ t. not (seen t)) once))

-- with one more text
missing_next : (seen : List ℕ → Bool) (done : List (List ℕ)) (text : List ℕ) → missing_of seen (done ++ text ∷ []) ≡ cond (seen text || is_among done text) (missing_of seen done) (missing_of seen done ++ text ∷ [])
missing_next seen done text = search (arith, fold-append, added_by, among_once)

-- ---- the wanted texts, one after the other

-- a text was seen, or is among those
abbrev pub seen_or : (List ℕ → Bool) → List (List ℕ) → List ℕ → Bool
seen_or seen done text = seen text || is_among done text

-- the texts so far were added if they are missing, and are marked
pub record AreTaken {A : Type 0} (seen : List ℕ → Bool) (wanted done : List (List ℕ)) (m : NameMarks A) (ts : List (Bor (List ℕ))) : Type 0 where
  pub marks : AreMarked (seen_or seen done) wanted m
  pub missing : texts_of ts ≡ missing_of seen done

among_more : (done : List (List ℕ)) (text other : List ℕ) → is_among (done ++ text ∷ []) other ≡ (is_among done other || bytes_eq other text)
among_more done text other = grind (arith, list_any-append (bytes_eq other) done (text ∷ []))

marked_more : (seen : List ℕ → Bool) (done : List (List ℕ)) (text : List ℕ) → (λ other. seen_or seen done other || bytes_eq text other) ≡ seen_or seen (done ++ text ∷ [])
marked_more seen done text i other =
    (or_more (seen other) (is_among done other) (bytes_eq text other)
    ∙ ap (λ (b : Bool). seen other || (is_among done other || b)) (nat_list_eq_equiv.symm text other)
    ∙ ap (λ (b : Bool). seen other || b) (sym (among_more done text other))) i

pub taken_next : {A : Type 0} (seen : List ℕ → Bool) (wanted done : List (List ℕ)) (m n : NameMarks A) (ts us : List (Bor (List ℕ))) (t : Bor (List ℕ)) → AreTaken seen wanted done m ts
    → AreMarked (λ other. seen_or seen done other || bytes_eq t.now other) wanted n → us ≡ cond (seen_or seen done t.now) ts (ts ++ t ∷ []) → AreTaken seen wanted (done ++ t.now ∷ []) n us
taken_next seen wanted done m n ts us t taken marks is = record {
  marks = subst (λ (marked : List ℕ → Bool). AreMarked marked wanted n) (marked_more seen done t.now) marks;
  missing =
      let b = seen_or seen done t.now in
      ap texts_of is ∙ (grind (arith, map_push)) ∙ ap (λ (l : List (List ℕ)). cond b l (l ++ t.now ∷ [])) taken.missing ∙ sym (missing_next seen done t.now);
}

module _ {A : Type 0} (vs : List (Vec ℕ A)) (i : ℕ) (v : Vec ℕ A) (below : i < length vs) (is : v ≡ get_or vs i v) where
  -- the texts so far and the next one
  pub next_text : map vec_items (take (i + 1) vs) ≡ map vec_items (take i vs) ++ vec_items v ∷ []
  next_text = ap (map vec_items) (take_more vs i v below) ∙ map_push vec_items (take i vs) (get_or vs i v) ∙ ap (λ (w : Vec ℕ A). map vec_items (take i vs) ++ vec_items w ∷ []) (sym is)

  pub next_among : is_among (map vec_items vs) (vec_items v) ≡ true
  next_among =
      list_any_at (bytes_eq (vec_items v)) (map vec_items vs) i [] (omega (arith, below, length-map vs (vec_items {X = ℕ} {Z = A})))
      ((bytes_eq-Decides (vec_items v) (get_or (map vec_items vs) i [])).1 (ap vec_items is ∙ sym (get_or-map vec_items vs i v [] below)))
