-- Quoting byte by byte, run by run and batch by batch.
use Rattle.krb_wire.proofs.Cited.{◌≡◌, ◌≢◌, ℕ, ◌+◌, ◌<◌, ◌≤◌, List, [], ◌∷◌, ◌++◌, cond, eqb, length, map, take, drop, set, get_or, refl, sym, ap, subst, ◌∙◌, append_assoc, append-nil, length-set, arith, All, flat_map, range_with_len, ne_eqb, cond-false, take_more, take_more_set, take-append-drop, take-take, quoted_byte, IsPlain, quote}
use Rattle.std.proofs.Math.Seq.{take-add}
use Rattle.std.proofs.lemmas.Grind.{flat_map-append, take-set_at}
use Rattle.std.proofs.lemmas.List.Elements.{All-nil, All-cons, All-head, All-tail, All-append, All-take}
use Rattle.std.proofs.lemmas.List.FromFn.{get_or-map-range_with_len}
use Rattle.krb_wire.specs.declared.quote.TheConstants.{LETTERS}

-- ---- plain bytes

-- one more plain byte
pub plain_step : (bytes : List ℕ) (i : ℕ) → i < length bytes → All IsPlain (take i bytes) → IsPlain (get_or bytes i 0) → All IsPlain (take (i + 1) bytes)
plain_step bytes i lt before one = subst (All IsPlain) (sym (take_more bytes i 0 lt)) (All-append IsPlain (take i bytes) _ before (All-cons IsPlain _ [] one (All-nil IsPlain)))

-- one more plain run
pub plain_more : (bytes : List ℕ) (at n : ℕ) → All IsPlain (take at bytes) → All IsPlain (take n (drop at bytes)) → All IsPlain (take (at + n) bytes)
plain_more bytes at n before run = subst (All IsPlain) (sym (take-add at n bytes)) (All-append IsPlain (take at bytes) _ before run)

-- a plain prefix and a plain rest that meet or overlap are all bytes
pub plain_whole : (bytes : List ℕ) (at last : ℕ) → last ≤ at → All IsPlain (take at bytes) → All IsPlain (drop last bytes) → All IsPlain bytes
plain_whole bytes at last le prefix rest =
    let before = subst (All IsPlain) (take-take last at bytes le) (All-take IsPlain last (take at bytes) prefix) in
    subst (All IsPlain) (take-append-drop last bytes) (All-append IsPlain (take last bytes) _ before rest)

-- plain bytes are not quoted
pub quote_plain : (bytes : List ℕ) → All IsPlain bytes → quote bytes ≡ bytes
unfolding quote
quote_plain [] p = refl
quote_plain (b ∷ bytes) p =
    let one : quoted_byte b ≡ b ∷ [] = All-head IsPlain b bytes p in
    ap (λ (x : List ℕ). x ++ quote bytes) one ∙ ap (λ (x : List ℕ). b ∷ x) (quote_plain bytes (All-tail IsPlain b bytes p))

-- ---- the table of letters

-- a byte as text, by a table
by_table : List ℕ → ℕ → List ℕ
by_table table b = cond (eqb (get_or table b 0) 46) (b ∷ []) (92 ∷ get_or table b 0 ∷ [])

-- functions with the same values in the list of the numbers below 256 are equal there
same_at : (f h : ℕ → List ℕ) → map f (range_with_len 0 256) ≡ map h (range_with_len 0 256) → (b : ℕ) → b < 256 → f b ≡ h b
same_at f h all b lt =
    sym (get_or-map-range_with_len f 0 256 b b [] lt (omega arith))
    ∙ ap (λ (l : List (List ℕ)). get_or l b []) all
    ∙ get_or-map-range_with_len h 0 256 b b [] lt (omega arith)

-- the table agrees with the definition at each of the 256 bytes: both are computed
quoted-table : (b : ℕ) → b < 256 → quoted_byte b ≡ by_table LETTERS b
unfolding by_table
quoted-table b lt = same_at quoted_byte (by_table LETTERS) refl b lt

-- a letter is written after a backslash
by_table-letter : (table : List ℕ) (b : ℕ) → get_or table b 0 ≢ 46 → by_table table b ≡ 92 ∷ get_or table b 0 ∷ []
unfolding by_table
by_table-letter table b other = cond-false _ _ _ (ne_eqb _ _ other)

-- a byte with a letter is quoted as a backslash and that letter
pub quoted-letter : (b : ℕ) → b < 256 → get_or LETTERS b 0 ≢ 46 → quoted_byte b ≡ 92 ∷ get_or LETTERS b 0 ∷ []
quoted-letter b lt other = quoted-table b lt ∙ by_table-letter LETTERS b other

-- two bytes stored at a place
pub stored : (text : List ℕ) (at x y : ℕ) → at + 2 ≤ length text → take (at + 2) (set (set text at x) (at + 1) y) ≡ take at text ++ x ∷ y ∷ []
stored text at x y room =
    take-set_at (set text at x) (at + 1) (at + 2) y (omega arith) (omega (arith, length-set text at x))
    ∙ ap (λ (t : List ℕ). t ++ y ∷ []) (take_more_set text at x (omega arith)) ∙ append_assoc (take at text) (x ∷ []) (y ∷ [])

-- ---- bytes as text

-- one more byte is quoted
pub quote_step : (bytes : List ℕ) (i : ℕ) → i < length bytes → quote (take i bytes) ++ quoted_byte (get_or bytes i 0) ≡ quote (take (i + 1) bytes)
unfolding quote
quote_step bytes i lt =
    ap (λ (t : List ℕ). flat_map quoted_byte (take i bytes) ++ t) (sym (append-nil (quoted_byte (get_or bytes i 0))))
    ∙ sym (flat_map-append quoted_byte (take i bytes) (get_or bytes i 0 ∷ []))
    ∙ ap (λ (t : List ℕ). flat_map quoted_byte t) (sym (take_more bytes i 0 lt))

-- a prefix and what follows it, each quoted
quote_parts : (n : ℕ) (bytes : List ℕ) → quote (take n bytes) ++ quote (drop n bytes) ≡ quote bytes
unfolding quote
quote_parts n bytes = sym (flat_map-append quoted_byte (take n bytes) (drop n bytes)) ∙ ap (λ (t : List ℕ). flat_map quoted_byte t) (take-append-drop n bytes)

-- the next batch and what follows it, each quoted
pub quote_batch : (rest batch after : List ℕ) (n : ℕ) → batch ≡ take n rest → after ≡ drop n rest → quote rest ≡ quote batch ++ quote after
quote_batch rest batch after n is_batch is_after =
    sym (quote_parts n rest) ∙ ap (λ (t : List ℕ). quote t ++ quote (drop n rest)) (sym is_batch) ∙ ap (λ (t : List ℕ). quote batch ++ quote t) (sym is_after)

-- empty text is quoted as empty text
pub quote_none : (rest : List ℕ) → length rest ≡ 0 → quote rest ≡ []
unfolding quote
quote_none [] none = refl
quote_none (x ∷ xs) none = absurd (omega arith)
