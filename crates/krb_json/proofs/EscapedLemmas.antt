-- Escaped texts, token by token.
use Rattle.krb_json.proofs.Cited.{◌≡◌, ℕ, ◌==◌, ◌&&◌, Bool, true, false, cond, List, [], ◌∷◌, ◌++◌, fold, length, refl, sym, ap, ◌∙◌, subst, arith, append_assoc, append-nil, common_steps, nat_tests, or_parts, false_from_ne_true, list_any, slice_index_or, added, escaped, in_json, shown, text_from, text_of, Token, key, string, number, boolean, ArePrintableOrBad-tokens, tokens, print, print_from, begins, ends, separator, token_text, json_escape, IsPrintableOrBad, ArePrintableOrBad, suc, ◌+◌, drop, Option, Some, None, option_and_then, prefix_len, is_ascii_digit, IsNumber, ◌||◌}
use Rattle.std.proofs.lemmas.List.Folds.{list_any_none}
use Rattle.memchr.specs.Find.{Nowhere, Passes}
use Rattle.json.specs.Word.{after_digits, after_minus, after_sign, after_whole, after_fraction, after_exponent, after_number}

-- ---- a number has no byte that is escaped

-- a byte that may begin an escape
abbrev pub is_special : ℕ → Bool
is_special b = (b == 127) || (b == 194)

abbrev has : List ℕ → Bool
has t = list_any is_special t

-- whether what is left of a text has one, or the text if nothing is left
abbrev left_has : Bool → Option (List ℕ) → Bool
left_has b None = b
left_has b (Some r) = has r

-- each part of the grammar leaves all such bytes
abbrev Leaves : (List ℕ → Option (List ℕ)) → Type 0
Leaves f = (t : List ℕ) → left_has (has t) (f t) ≡ has t

sign : Leaves (λ t. Some (after_sign t))
sign [] = refl
sign (x ∷ xs) = grind (arith, nat_tests)

run : Leaves (λ t. Some (drop (prefix_len is_ascii_digit t) t))
run [] = refl
run (x ∷ xs) =
    let n = prefix_len is_ascii_digit xs in
    let next : 1 + n ≡ suc n = omega arith in
    grind (arith, nat_tests, run xs, ap (λ k. drop k (x ∷ xs)) next)

digits : Leaves after_digits
digits t = grind (arith, nat_tests, run t)

whole : Leaves after_whole
whole [] = refl
whole (x ∷ xs) = grind (arith, nat_tests, digits (x ∷ xs))

signed : Leaves (λ t. after_whole (after_minus t))
signed [] = refl
signed (x ∷ xs) = grind (arith, nat_tests, whole xs, whole (x ∷ xs))

fraction : Leaves after_fraction
fraction [] = refl
fraction (x ∷ xs) = grind (arith, nat_tests, digits xs)

exponent : Leaves after_exponent
exponent [] = refl
exponent (x ∷ xs) = grind (arith, nat_tests, digits (after_sign xs), sign xs)

then : (f : List ℕ → Option (List ℕ)) → Leaves f → (b : Bool) (o : Option (List ℕ)) → left_has b o ≡ b → left_has b (option_and_then f o) ≡ b
then f leaves b None e = refl
then f leaves b (Some r) e = subst (λ c. left_has c (f r) ≡ c) e (leaves r)

pub number_has_none : (s : List ℕ) → IsNumber s → list_any is_special s ≡ false
unfolding after_number
number_has_none s h =
    let front = after_whole (after_minus s) in
    sym (subst (λ o. left_has (has s) o ≡ has s) h (then after_exponent exponent (has s) (option_and_then after_fraction front) (then after_fraction fraction (has s) front (signed s))))

-- bytes that need no escape, before others
pub escaped-front : (front rest : List ℕ) → list_any is_special front ≡ false → escaped in_json false (front ++ rest) ≡ front ++ escaped in_json false rest
unfolding escaped
escaped-front [] rest none = refl
escaped-front (b ∷ front) rest none =
    let parts = or_parts (is_special b) (list_any is_special front) none in
    grind (arith, nat_tests, parts.0, escaped-front front rest parts.1)

-- a text may be cut at a quote
at_quote : (holds : Bool) (text rest : List ℕ) → escaped in_json holds (text ++ 34 ∷ rest) ≡ escaped in_json holds text ++ 34 ∷ escaped in_json false rest
unfolding escaped
at_quote false [] rest = refl
at_quote true [] rest = refl
at_quote holds (b ∷ text) rest = ap (λ l. added in_json holds b ++ l) (at_quote (b == 194) text rest) ∙ sym (append_assoc (added in_json holds b) _ _)

-- a token's text is escaped by itself
token_shown : (t : Token) (rest : List ℕ) → IsPrintableOrBad t → escaped in_json false (token_text t ++ rest) ≡ shown t ++ escaped in_json false rest
unfolding escaped
token_shown (key s) rest h = simp append_assoc (ap (λ l. 34 ∷ l) (at_quote false (json_escape s) (58 ∷ rest)))
token_shown (string s) rest h = simp append_assoc (ap (λ l. 34 ∷ l) (at_quote false (json_escape s) rest))
token_shown (number s) rest h = escaped-front s rest (number_has_none s h)
token_shown (boolean true) rest h = refl
token_shown (boolean false) rest h = refl
token_shown _ rest h = refl

separator_none : (c : Bool) → list_any is_special (cond c (44 ∷ []) []) ≡ false
separator_none c = grind arith

-- what is printed is escaped token by token
pub text_from-escaped : (c : Bool) (ts : List Token) → ArePrintableOrBad ts → escaped in_json false (print_from c ts) ≡ text_from c ts
unfolding escaped print_from text_from
text_from-escaped c [] h = refl
text_from-escaped c (t ∷ ts) h =
    escaped-front (separator c t) _ (separator_none (c && begins t))
    ∙ ap (λ l. separator c t ++ l) (token_shown t (print_from (ends t) ts) h.0 ∙ ap (λ l. shown t ++ l) (text_from-escaped (ends t) ts h.1))

pub text_from-append : (c : Bool) (ts us : List Token) → text_from c (ts ++ us) ≡ text_from c ts ++ text_from (fold (λ _ u. ends u) c ts) us
unfolding text_from
text_from-append c [] us = refl
text_from-append c (t ∷ ts) us = rw (text_from-append (ends t) ts us) (simp append_assoc)

-- no byte is escaped where neither byte is found that may begin an escape
pub escaped_plain : (text : List ℕ) → Nowhere (Passes is_special text) 0 (length text) → escaped in_json false text ≡ text
unfolding escaped
escaped_plain text none =
    let plain = list_any_none is_special text (λ k d below. let same : slice_index_or text k d ≡ slice_index_or text k 0 = grind (arith, common_steps) in
    false_from_ne_true (is_special (slice_index_or text k d)) (λ special. none k (omega arith) below (sym (ap is_special same) ∙ special))) in
    rw append-nil at (escaped-front text [] plain)

-- what the writer printed is escaped token by token
pub printed_text : (ts : List Token) → tokens (print ts) ≡ ts → escaped in_json false (print ts) ≡ text_of ts
printed_text ts e = text_from-escaped false ts (subst ArePrintableOrBad e (ArePrintableOrBad-tokens (print ts)))
