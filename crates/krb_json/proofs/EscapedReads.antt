-- Tokens and values are read back from their escaped text.
use Rattle.krb_json.proofs.Cited.{◌≡◌, ℕ, ◌≤◌, ◌&&◌, Bool, true, false, cond, List, [], ◌∷◌, ◌++◌, Some, option_and_then, refl, sym, ap, ap₂, ◌∙◌, append_assoc, Token, key, string, number, boolean, null, bad, Json, document, if_last, max_depth, value, json_tokens, depth, HasNumbers, json_text, shown, text_from, within, content-escape, lex-escape, ArePrintable-json_tokens, document-print, Lexeme, lex, between, token, comma, colon, string_token, punctuate, fresh, print_from, json_escape, token_text, begins, ends, IsPrintable, ArePrintable, ◌/◌, ◌%◌, ◌<◌, ◌==◌, inl, inr, subst, arith, nat_tests, cases_Bool, cases_eq, escape, escaped, in_json, is_second, digit_char, encode_utf8, encode_ascii, digit_value-digit_char, not, nat_lt, nat_le, in_string, escape_byte, escape_letter}
use Rattle.json.specs.Word.{ends_word, word}
use Rattle.json.proofs.Printed.Numbers.{in_word-ended, lex-number}
use lib.Utf8.{encode}
use Rattle.json.specs.Text.{content, plain, prepend, code_unit, short_escape}

-- a text is read as bytes, whatever comes after it, and ends no string
record Stands (text bytes : List ℕ) : Type 0 where
  read : (r : List ℕ) → content plain (text ++ r) ≡ prepend bytes (content plain r)
  lexed : (r : List ℕ) → lex in_string (text ++ r) ≡ lex in_string r

abbrev is_inner : ℕ → Bool
is_inner x = not (x == 34) && not (x == 92)

inner_lexed : (x : ℕ) (r : List ℕ) → is_inner x ≡ true → lex in_string (x ∷ r) ≡ lex in_string r
unfolding lex
inner_lexed x r h = grind (arith, nat_tests)

-- a byte that JSON does not escape
byte_stands : (x : ℕ) → (is_inner x && nat_le 32 x) ≡ true → Stands (x ∷ []) (x ∷ [])
unfolding content
byte_stands x h = record { read = λ r. grind (arith, nat_tests); lexed = λ r. grind (arith, nat_tests, inner_lexed x r) }

-- `\u00` and two digits: a character below a0
escape_stands : (x : ℕ) → x < 160 → Stands (escape in_json true x) (encode_utf8 x)
unfolding content lex code_unit
escape_stands x lt =
    let d = digit_char (x / 16) in
    let e = digit_char (x % 16) in
    let unit : code_unit 48 48 d e ≡ Some x = grind (arith, nat_tests, digit_value-digit_char (x / 16), digit_value-digit_char (x % 16)) in
    record {
      read = λ r. rw unit (grind (arith, nat_tests));
      lexed = λ r. inner_lexed d (e ∷ r) (grind (arith, nat_tests)) ∙ inner_lexed e r (grind (arith, nat_tests));
    }

-- what JSON writes for a byte
escape_byte_stands : (x : ℕ) → Stands (escape_byte x) (x ∷ [])
unfolding escape_byte content lex short_escape
escape_byte_stands x = go (nat_lt 0 (escape_letter x)) (nat_lt x 32) refl refl
  where
    go : (short control : Bool) → nat_lt 0 (escape_letter x) ≡ short → nat_lt x 32 ≡ control
        → Stands (cond short (92 ∷ escape_letter x ∷ []) (cond control (92 ∷ 117 ∷ 48 ∷ 48 ∷ digit_char (x / 16) ∷ digit_char (x % 16) ∷ []) (x ∷ []))) (x ∷ [])
    go true control is small = record { read = λ r. grind (arith, nat_tests); lexed = λ r. refl }
    go false true is small = subst (Stands (escape in_json true x)) (encode_ascii x (grind (arith, nat_tests))) (escape_stands x (grind (arith, nat_tests)))
    go false false is small = byte_stands x (grind (arith, nat_tests))

-- ---- strings

-- a string's bytes are read from a text, up to the closing quote
pub record IsRead (text s : List ℕ) : Type 0 where
  pub read : (r : List ℕ) → content plain (text ++ 34 ∷ r) ≡ Some s
  pub lexed : (r : List ℕ) → lex in_string (text ++ 34 ∷ r) ≡ lex between r

-- bytes before others
is_read-front : {text bytes rest s : List ℕ} → Stands text bytes → IsRead rest s → IsRead (text ++ rest) (bytes ++ s)
is_read-front {text = text} {bytes = bytes} {rest = rest} front h = record {
  read = λ r. ap (content plain) (append_assoc text rest (34 ∷ r)) ∙ front.read _ ∙ ap (prepend bytes) (h.read r);
  lexed = λ r. ap (lex in_string) (append_assoc text rest (34 ∷ r)) ∙ front.lexed _ ∙ h.lexed r;
}

-- a string is read from its escaped text, after a c2 that may be held back
abbrev Reads : List ℕ → Type 0
Reads s = (holds : Bool) → IsRead (escaped in_json holds (json_escape s)) (cond holds (194 ∷ s) s)

-- a byte of a string, where none is held back
single : (b : ℕ) (rest : List ℕ) → (b ≡ 194 → ⊥) → (b ≡ 127 → ⊥) → escaped in_json false (escape_byte b ++ rest) ≡ escape_byte b ++ escaped in_json false rest
unfolding escaped escape_byte
single b rest first delete = grind (arith, nat_tests)

single_read : (b : ℕ) (s : List ℕ) → Reads s → IsRead (escaped in_json false (json_escape (b ∷ s))) (b ∷ s)
unfolding escaped escape_byte encode
single_read b s h = elim (cases_eq b 194) [
  | inl first ↦ rw first (h true)
  | inr other ↦ elim (cases_eq b 127) [
    | inl delete ↦ rw delete (is_read-front (escape_stands 127 (omega arith)) (h false))
    | inr any ↦ subst (λ t. IsRead t (b ∷ s)) (sym (single b (json_escape s) other any)) (is_read-front (escape_byte_stands b) (h false))
  ]
]

-- a c2 before another byte than 80 to 9f
alone : (b : ℕ) (rest : List ℕ) → is_second b ≡ false → escaped in_json true (escape_byte b ++ rest) ≡ 194 ∷ escaped in_json false (escape_byte b ++ rest)
unfolding escaped escape_byte
alone b rest other = grind (arith, nat_tests)

-- and before one of those
pair : (b : ℕ) (rest : List ℕ) → is_second b ≡ true → escaped in_json true (escape_byte b ++ rest) ≡ escape in_json true b ++ escaped in_json false rest
unfolding escaped escape_byte
pair b rest second = grind (arith, nat_tests)

pair_stands : (b : ℕ) → is_second b ≡ true → Stands (escape in_json true b) (194 ∷ b ∷ [])
unfolding encode
pair_stands b second =
    let bytes : encode_utf8 b ≡ 194 ∷ b ∷ [] = grind (arith, nat_tests) in
    subst (Stands (escape in_json true b)) bytes (escape_stands b (grind (arith, nat_tests)))

pub is_read : (s : List ℕ) → Reads s
unfolding escaped content lex
is_read [] false = record { read = λ r. refl; lexed = λ r. refl }
is_read [] true = record { read = λ r. refl; lexed = λ r. refl }
is_read (b ∷ s) false = single_read b s (is_read s)
is_read (b ∷ s) true = elim (cases_Bool (is_second b)) [
  | inl second ↦ rw (pair b (json_escape s) second) (is_read-front (pair_stands b second) (is_read s false))
  | inr other ↦ rw (alone b (json_escape s) other) (is_read-front (byte_stands 194 refl) (single_read b s (is_read s)))
]

-- ---- a token

abbrev token_lexemes : Token → List Lexeme
token_lexemes (key s) = token (string s) ∷ colon ∷ []
token_lexemes bad = []
token_lexemes t = token t ∷ []

-- the lexer reads a text as a token, before what ends a word if the token may be one
abbrev IsReadAs : Token → List ℕ → Type 0
IsReadAs t text = (r : List ℕ) → (ends t ≡ true → ends_word r ≡ true) → lex between (text ++ r) ≡ token_lexemes t ++ lex between r

quoted_read : (text s r : List ℕ) → IsRead text s → lex between (34 ∷ (text ++ 34 ∷ r)) ≡ token (string s) ∷ lex between r
unfolding lex
quoted_read text s r h = ap₂ (λ o l. token (string_token o) ∷ l) (h.read r) (h.lexed r)

plain_read : (s r : List ℕ) → lex between (34 ∷ (json_escape s ++ 34 ∷ r)) ≡ token (string s) ∷ lex between r
plain_read s r = quoted_read (json_escape s) s r (record { read = content-escape s; lexed = lex-escape s })

token_read : (t : Token) → IsPrintable t → IsReadAs t (token_text t)
unfolding lex word
token_read (key s) h = λ r ended. simp append_assoc (plain_read s (58 ∷ r))
token_read (string s) h = λ r ended. simp append_assoc (plain_read s r)
token_read (number s) h = λ r ended. lex-number s r h (ended refl)
token_read (boolean true) h = λ r ended. ap₂ (λ b l. token (cond b (boolean true) bad) ∷ l) (ended refl) (in_word-ended r (ended refl))
token_read (boolean false) h = λ r ended. ap₂ (λ b l. token (cond b (boolean false) bad) ∷ l) (ended refl) (in_word-ended r (ended refl))
token_read null h = λ r ended. ap₂ (λ b l. token (cond b null bad) ∷ l) (ended refl) (in_word-ended r (ended refl))
token_read bad h = absurd h
token_read _ h = λ r ended. refl

shown_read : (t : Token) → IsPrintable t → IsReadAs t (shown t)
unfolding lex
shown_read (key s) h = λ r ended. simp append_assoc (quoted_read (within s) s (58 ∷ r) (is_read s false))
shown_read (string s) h = λ r ended. simp append_assoc (quoted_read (within s) s r (is_read s false))
shown_read t h = token_read t h

-- ---- tokens

-- a value is followed by a comma, a closing bracket or nothing
print_ends : (ts : List Token) → ends_word (print_from true ts) ≡ true
unfolding print_from
print_ends [] = refl
print_ends (null ∷ ts) = refl
print_ends (_ ∷ ts) = refl

text_ends : (ts : List Token) → ends_word (text_from true ts) ≡ true
unfolding text_from
text_ends [] = refl
text_ends (null ∷ ts) = refl
text_ends (_ ∷ ts) = refl

-- a comma, or none, is read before either text
after_comma : (b : Bool) (l r : List ℕ) → lex between l ≡ lex between r → lex between (cond b (44 ∷ []) [] ++ l) ≡ lex between (cond b (44 ∷ []) [] ++ r)
unfolding lex
after_comma true l r h = ap (λ t. comma ∷ t) h
after_comma false l r h = h

-- the lexer reads the escaped text of tokens as it reads their text
same_lexemes : (c : Bool) (ts : List Token) → ArePrintable ts → lex between (text_from c ts) ≡ lex between (print_from c ts)
unfolding print_from text_from ArePrintable
same_lexemes c [] h = refl
same_lexemes c (t ∷ ts) h =
    let left = shown_read t h.0 (text_from (ends t) ts) (λ e. ap (λ b. ends_word (text_from b ts)) e ∙ text_ends ts) in
    let right = token_read t h.0 (print_from (ends t) ts) (λ e. ap (λ b. ends_word (print_from b ts)) e ∙ print_ends ts) in
    after_comma (c && begins t) _ _ (left ∙ ap (λ l. token_lexemes t ++ l) (same_lexemes (ends t) ts h.1) ∙ sym right)

-- ---- values

pub document-text : (j : Json) → HasNumbers j → depth j ≤ max_depth → document (json_text j) ≡ Some j
document-text j numbers shallow =
    ap (λ ls. option_and_then (λ p. if_last p.0 p.1) (value max_depth (punctuate fresh ls))) (same_lexemes false (json_tokens j) (ArePrintable-json_tokens j numbers))
    ∙ document-print j numbers shallow
