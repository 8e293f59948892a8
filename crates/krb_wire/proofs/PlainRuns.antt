-- The plain bytes that a text begins with.
use Rattle.krb_wire.proofs.Cited.{◌≡◌, ◌+◌, ◌≤◌, ◌<◌, ℕ, suc, Bool, true, false, not, ◌||◌, List, [], ◌∷◌, ◌++◌, length, map, take, drop, Some, None, refl, ap, subst, ◌∙◌, cond, arith, nat_lt, ◌==◌, position, prefix_len, filter_map, ltb-true, ltb-false, take_all, drop_all, Atom, Byte, Slash, At, atoms, atoms_after, is_special, before_at, after_at, component_fault, realm_fault, first_component, after_first, faults_from}

-- how many plain bytes a text begins with
abbrev plain_count : List ℕ → ℕ
plain_count text = prefix_len (λ b. not (is_special b)) text

unquoted-plain : (slash at backslash : Bool) (b : ℕ) (bs : List ℕ) → slash || at || backslash ≡ false
    → cond backslash (atoms_after true bs) (cond slash Slash (cond at At (Byte b)) ∷ atoms bs) ≡ Byte b ∷ atoms bs
unquoted-plain true at backslash b bs e = absurd (cc)
unquoted-plain false true backslash b bs e = absurd (cc)
unquoted-plain false false true b bs e = absurd (cc)
unquoted-plain false false false b bs e = refl

-- a plain byte is an atom of its own
atoms-plain : (b : ℕ) (bs : List ℕ) → is_special b ≡ false → atoms (b ∷ bs) ≡ Byte b ∷ atoms bs
atoms-plain b bs e = unquoted-plain (b == 47) (b == 64) (b == 92) b bs e

cut-first : (special : Bool) (b : ℕ) (bs : List ℕ) (n : ℕ) → is_special b ≡ special → atoms bs ≡ map Byte (take n bs) ++ atoms (drop n bs)
    → atoms (b ∷ bs) ≡ map Byte (take (cond (not special) (1 + n) 0) (b ∷ bs)) ++ atoms (drop (cond (not special) (1 + n) 0) (b ∷ bs))
cut-first true b bs n e others = refl
cut-first false b bs n e others =
    let next : 1 + n ≡ suc n = omega arith in
    rw next (atoms-plain b bs e ∙ ap (λ (rest : List Atom). Byte b ∷ rest) others)

cut-plain : (text : List ℕ) → atoms text ≡ map Byte (take (plain_count text) text) ++ atoms (drop (plain_count text) text)
cut-plain [] = refl
cut-plain (b ∷ bs) = cut-first (is_special b) b bs (plain_count bs) refl (cut-plain bs)

found-within : (count len end : ℕ) (within : Bool) → nat_lt count len ≡ within → Some end ≡ cond within (Some count) None → (count ≡ end) × (end < len)
found-within count len end true e found = let same : count ≡ end = cc in (same, subst (λ n. n < len) same (ltb-true count len e))
found-within count len end false e found = absurd (cc)

not-found : (count len : ℕ) (within : Bool) → nat_lt count len ≡ within → None ≡ cond within (Some count) None → len ≤ count
not-found count len true e none = absurd (cc)
not-found count len false e none = ltb-false count len e

-- a text is split at its first special byte
pub plain_before : (text : List ℕ) (end : ℕ) → Some end ≡ position is_special text → (end < length text) × (atoms text ≡ map Byte (take end text) ++ atoms (drop end text))
plain_before text end found =
    let at = found-within (plain_count text) (length text) end (nat_lt (plain_count text) (length text)) refl found in
    (at.1, subst (λ n. atoms text ≡ map Byte (take n text) ++ atoms (drop n text)) at.0 (cut-plain text))

-- without a special byte, all bytes are plain
pub plain_whole : (text : List ℕ) → None ≡ position is_special text → atoms text ≡ map Byte text ++ atoms []
plain_whole text none =
    let all = not-found (plain_count text) (length text) (nat_lt (plain_count text) (length text)) refl none in
    subst (λ (run : List ℕ). atoms text ≡ map Byte run ++ atoms []) (take_all (plain_count text) text all)
    (subst (λ (rest : List ℕ). atoms text ≡ map Byte (take (plain_count text) text) ++ atoms rest) (drop_all (plain_count text) text all) (cut-plain text))

-- plain bytes before a text belong to its first component
pub first_component-plain : (run : List ℕ) (rest : List Atom) → first_component (map Byte run ++ rest) ≡ run ++ first_component rest
first_component-plain [] rest = refl
first_component-plain (b ∷ bs) rest = ap (λ (bytes : List ℕ). b ∷ bytes) (first_component-plain bs rest)

-- plain bytes end no component
pub after_first-plain : (run : List ℕ) (rest : List Atom) → after_first (map Byte run ++ rest) ≡ after_first rest
after_first-plain [] rest = refl
after_first-plain (b ∷ bs) rest = after_first-plain bs rest

-- plain bytes begin no realm
pub after_at-plain : (run : List ℕ) (rest : List Atom) → after_at (map Byte run ++ rest) ≡ after_at rest
after_at-plain [] rest = refl
after_at-plain (b ∷ bs) rest = after_at-plain bs rest

before_at-plain : (run : List ℕ) (rest : List Atom) → before_at (map Byte run ++ rest) ≡ map Byte run ++ before_at rest
before_at-plain [] rest = refl
before_at-plain (b ∷ bs) rest = ap (λ (text : List Atom). Byte b ∷ text) (before_at-plain bs rest)

component_faults-plain : (run : List ℕ) (rest : List Atom) → filter_map component_fault (map Byte run ++ rest) ≡ filter_map component_fault rest
component_faults-plain [] rest = refl
component_faults-plain (b ∷ bs) rest = component_faults-plain bs rest

realm_faults-plain : (run : List ℕ) (rest : List Atom) → filter_map realm_fault (map Byte run ++ rest) ≡ filter_map realm_fault rest
realm_faults-plain [] rest = refl
realm_faults-plain (b ∷ bs) rest = realm_faults-plain bs rest

-- plain bytes have no fault
pub faults_from-plain : (in_realm : Bool) (run : List ℕ) (rest : List Atom) → faults_from in_realm (map Byte run ++ rest) ≡ faults_from in_realm rest
faults_from-plain false run rest = rw (before_at-plain run rest, component_faults-plain run (before_at rest), after_at-plain run rest) refl
faults_from-plain true run rest = realm_faults-plain run rest
