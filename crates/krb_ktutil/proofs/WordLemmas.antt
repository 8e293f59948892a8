-- The first word of a line, the words after it, and the options among them.
use Rattle.krb_ktutil.proofs.Cited.{◌≡◌, ℕ, ◌<◌, ◌≤◌, Bool, true, false, not, List, [], ◌∷◌, length, take, drop, refl, arith, ◌&&◌, words, unindented, zero, suc, get_or, ◌==◌, is_blank, parts_from, is_word, size_from, word_size, Some, options_in, AddOptions, is_new_key, with_option, nil_from_length}
use Rattle.std.proofs.lemmas.Str.{IsUtf8-from_is_utf8, is_utf8-from_IsUtf8}

-- a word is UTF-8 or is not
pub ruleset utf8 = (IsUtf8-from_is_utf8, is_utf8-from_IsUtf8)

-- the first part of a text has n bytes
record FirstPart (text : List ℕ) (quoted : Bool) (n : ℕ) : Type 0 where
  parts_are : parts_from text quoted ≡ take n text ∷ drop 1 (parts_from (drop n text) false)
  ends : parts_from (drop n text) false ≡ [] ∷ drop 1 (parts_from (drop n text) false)
  within : n ≤ length text

first_part : (text : List ℕ) (quoted : Bool) → FirstPart text quoted (size_from text quoted)
first_part [] quoted = record { parts_are = refl; ends = refl; within = omega arith }
first_part (b ∷ bs) quoted =
    let plain = first_part bs false in
    let next = first_part bs (b == 92) in
    grind (arith, plain.parts_are, plain.ends, plain.within, next.parts_are, next.ends, next.within)

-- the first n bytes of a text are a word, if there are any
some_is_word : (text : List ℕ) (n : ℕ) → 0 < n → 0 < length text → is_word (take n text) ≡ true
some_is_word text n p q = grind arith

-- a text is a line without its leading blanks: it has the same words, and the first of them is at its front
record Unindents (line text : List ℕ) : Type 0 where
  same : words text ≡ words line
  size : 0 < length text → 0 < word_size text

unindents : (line : List ℕ) → Unindents line (unindented line)
unindents [] = record { same = refl; size = λ some. absurd (omega (arith, some)) }
unindents (b ∷ bs) = grind (arith, (unindents bs).same, (unindents bs).size)

-- the first n bytes of a text are the first word of a line
pub record FirstWord (line text : List ℕ) (n : ℕ) : Type 0 where
  pub cut : words line ≡ take n text ∷ words (drop n text)
  pub begun : 0 < n
  pub within : n ≤ length text

pub first_word : (line text : List ℕ) (n : ℕ) → text ≡ unindented line → n ≡ word_size text → 0 < length text → FirstWord line text n
first_word line text n is size some =
    let front = unindents line in
    let part = first_part text false in
    grind (arith, front.same, front.size, part.parts_are, part.ends, part.within, some_is_word)

-- a line of blanks has no words
pub no_words : (line text : List ℕ) → text ≡ unindented line → length text ≡ 0 → words line ≡ []
no_words line text same none = grind (arith, nil_from_length, (unindents line).same)

-- one more byte before the first blank that is not quoted
pub size_from-step : (text : List ℕ) (i : ℕ) (quoted : Bool) → i < length text → (not quoted && is_blank (get_or text i 0)) ≡ false
    → size_from (drop i text) quoted ≡ suc (size_from (drop (suc i) text) (not quoted && get_or text i 0 == 92))
size_from-step [] i quoted lt e = absurd (omega arith)
size_from-step (b ∷ bs) zero quoted lt e = grind arith
size_from-step (b ∷ bs) (suc i) quoted lt e = size_from-step bs i quoted (omega arith) e

-- ---- one more option of an addition

-- `-key`
pub options_in_key : (given : AddOptions) (option : List ℕ) (words : List (List ℕ)) → is_new_key given option ≡ true → options_in given (option ∷ words) ≡ options_in (record given { key = true }) words
options_in_key given option [] is = rw is refl
options_in_key given option (word ∷ others) is = rw is refl

-- an option with a value
pub options_in_word : (given more : AddOptions) (option word : List ℕ) (others : List (List ℕ)) → is_new_key given option ≡ false → with_option given option word ≡ Some more → options_in given (option ∷ word ∷ others) ≡ options_in more others
options_in_word given more option word others differ is = grind arith
