-- Lists of sizes.
use Rattle.krb_keytab.proofs.Cited.{◌≡◌, ℕ, suc, ◌+◌, ◌-◌, ◌*◌, ◌^◌, ◌<◌, ◌≤◌, List, [], ◌∷◌, ◌++◌, length, map, take, drop, get_or, replicate, sym, ap, ◌∙◌, append_assoc, add-one, arith, drop-cons, set, pow-suc, take_at, length-take, length-drop, length-map, map-append, drop-append-le, drop-replicate, take-suc, set-append_seam, drop-append-add}

-- one more size is written
pub write_next : {X : Type 0} (f : X → ℕ) (xs : List X) (old sizes : List ℕ) (i : ℕ) (d : X) → sizes ≡ map f (take i xs) ++ drop i old → i < length xs → length xs ≤ length old → set sizes i (f (get_or xs i d)) ≡ map f (take (i + 1) xs) ++ drop (i + 1) old
write_next {X} f xs old sizes i d is lt room =
    let front = map f (take i xs) in
    let y = f (get_or xs i d) in
    let len : length front ≡ i = simp (length-map, length-take) (omega arith) in
    let inside : i < length old = omega arith in
    let cut : sizes ≡ front ++ (get_or old i 0 ∷ drop (suc i) old) = is ∙ ap (λ (t : List ℕ). front ++ t) (drop-cons old i 0 inside) in
    let at : set sizes i y ≡ set (front ++ (get_or old i 0 ∷ drop (suc i) old)) (length front) y = ap (λ (t : List ℕ). set t i y) cut ∙ ap (λ (n : ℕ). set (front ++ (get_or old i 0 ∷ drop (suc i) old)) n y) (sym len) in
    let more : map f (take (suc i) xs) ≡ front ++ (y ∷ []) = ap (map f) (take-suc xs i d lt) ∙ map-append f (take i xs) (get_or xs i d ∷ []) in
    let up : i + 1 ≡ suc i = omega arith in
    rw up (at ∙ set-append_seam front (get_or old i 0) (drop (suc i) old) y ∙ sym (ap (λ (t : List ℕ). t ++ drop (suc i) old) more ∙ append_assoc front (y ∷ []) (drop (suc i) old)))

-- zeros after sizes
pub zeros_after : (sizes : List ℕ) (leaves n : ℕ) → sizes ++ drop (leaves + n) (replicate (2 * leaves) 0) ≡ sizes ++ replicate (leaves - n) 0
zeros_after sizes leaves n = ap (λ (t : List ℕ). sizes ++ t) (drop-replicate (leaves + n) (2 * leaves) 0 ∙ ap (λ (k : ℕ). replicate k 0) (omega arith))

-- the leaves of new nodes, with sizes written over the first of the zeros
pub filled : (power leaves n used : ℕ) (front items now new rest : List ℕ) → leaves ≡ power → items ≡ replicate (2 * leaves) 0 → now ≡ items → length new ≡ length now → length now ≡ used → drop leaves new ≡ front ++ drop (leaves + n) now → drop power (take used (new ++ rest)) ≡ front ++ replicate (power - n) 0
filled power leaves n used front items now new rest same zeros is len uses leaves_are = search (arith, take_at, zeros_after)

-- the leaves of a tree that was doubled
pub doubled : (height leaves used : ℕ) (sizes old items now new rest : List ℕ) → leaves ≡ 2 ^ height → sizes ≡ drop leaves old → length old ≡ 2 * leaves → items ≡ old ++ replicate (2 * leaves) 0 → now ≡ items → length new ≡ length now → length now ≡ used → drop (2 * leaves) new ≡ take leaves (drop leaves now) ++ drop (3 * leaves) now → drop (2 ^ (height + 1)) (take used (new ++ rest)) ≡ sizes ++ replicate (length sizes) 0
doubled height leaves used sizes old items now new rest power sizes_are len is same stays uses leaves_are =
    let twice : 2 ^ (height + 1) ≡ 2 * leaves = rw (add-one, pow-suc) (omega arith) in
    let size_len : length sizes ≡ leaves = ap length sizes_are ∙ length-drop leaves old ∙ omega (arith, len) in
    let cut : drop leaves items ≡ drop leaves old ++ replicate (2 * leaves) 0 = ap (drop leaves) is ∙ drop-append-le leaves old (replicate (2 * leaves) 0) (omega (arith, len)) in
    let front : take leaves (drop leaves items) ≡ sizes = ap (take leaves) cut ∙ take_at (drop leaves old) (replicate (2 * leaves) 0) leaves (length-drop leaves old ∙ omega (arith, len)) ∙ sym sizes_are in
    let split : 3 * leaves ≡ length old + leaves = omega (arith, len) in
    let back : drop (3 * leaves) items ≡ replicate (length sizes) 0 = ap (λ (t : List ℕ). drop (3 * leaves) t) is ∙ ap (λ (m : ℕ). drop m (old ++ replicate (2 * leaves) 0)) split ∙ drop-append-add old (replicate (2 * leaves) 0) leaves ∙ drop-replicate leaves (2 * leaves) 0 ∙ ap (λ (k : ℕ). replicate k 0) (omega (arith, size_len)) in
    ap (drop (2 ^ (height + 1))) (take_at new rest used (stays ∙ uses))
    ∙ ap (λ (m : ℕ). drop m new) twice ∙ leaves_are
    ∙ ap (λ (t : List ℕ). take leaves (drop leaves t) ++ drop (3 * leaves) t) same
    ∙ ap (λ (t : List ℕ). t ++ drop (3 * leaves) items) front ∙ ap (λ (t : List ℕ). sizes ++ t) back
