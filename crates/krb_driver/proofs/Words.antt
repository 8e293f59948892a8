-- Words and their texts: without a prefix, and before what may be a key.
use Rattle.krb_driver.proofs.Cited.{◌≡◌, ℕ, Bool, false, List, [], ◌∷◌, ◌++◌, refl, sym, ap, subst, ◌∙◌, codes, Watch, ErrorWatch, Writes, Bor, map, length-map, ◌≢◌, true, Option, None, Some, cond, drop, eqb, MatchOption, option_map, eqb-true, eq-eqb, ◌+◌, ◌-◌, ◌<◌, ◌≤◌, take, get_or, length, length-drop, arith, drop_more, drop_all, take_all, ◌==◌, ◌&&◌, if◌then◌else◌, flat_map, has_key, hidden_word, key_from, key_start, may_be_key, quoted_word, shown_byte, message, word_text, slice_get, stripped}
use Rattle.krb_driver.specs.declared.command_line.mistake.BadLine.{BadLine}
use Rattle.krb_driver.specs.declared.command_line.mistake.WordFault.TheVariants as word
use Rattle.std.proofs.lemmas.Option.{slice_get-map}
use Rattle.std.specs.Str.Pattern.{FindsTextPrefix, StripsPrefix}

-- a bad command line is reported without words
pub writes_alone : (err : ErrorWatch) (to : Watch) (line : BadLine) → err.explains ≡ false → Writes err.to to (message (codes "bad command line") ++ []) → Writes err.to to (word_text err.explains (word.BadLine line))
writes_alone err to line hides other = subst (λ (b : Bool). Writes err.to to (word_text b (word.BadLine line))) (sym hides) other

-- ---- words and their texts

pub length_words : (words : List (Bor (List ℕ))) → length (map (λ w. w.now) words) ≡ length words
length_words words = length-map words (λ w. w.now)

pub first_word : (words : List (Bor (List ℕ))) → slice_get (map (λ w. w.now) words) 0 ≡ option_map (λ w. w.now) (slice_get words 0)
first_word words = slice_get-map (λ w. w.now) words 0

-- ---- words without a prefix

-- a word that begins with the prefix
stripped-some : (prefix rest : List ℕ) → stripped prefix (prefix ++ rest) ≡ Some rest
stripped-some [] rest = refl
stripped-some (p ∷ ps) rest = grind (arith, eq-eqb p p refl, stripped-some ps rest)

stripped-next : (b p : ℕ) (bs ps : List ℕ) (same : Bool) → eqb b p ≡ same → ((rest : List ℕ) → b ∷ bs ≢ p ∷ ps ++ rest) → (((rest : List ℕ) → bs ≢ ps ++ rest) → stripped ps bs ≡ None)
    → cond same (stripped ps bs) None ≡ None
stripped-next b p bs ps true is lacks others = others (λ rest e. lacks rest (ap (λ (c : ℕ). c ∷ bs) (eqb-true b p is) ∙ ap (λ (cs : List ℕ). p ∷ cs) e))
stripped-next b p bs ps false is lacks others = refl

-- a word that does not
stripped-none : (prefix word : List ℕ) → ((rest : List ℕ) → word ≢ prefix ++ rest) → stripped prefix word ≡ None
stripped-none [] word lacks = absurd (lacks word refl)
stripped-none (p ∷ ps) [] lacks = refl
stripped-none (p ∷ ps) (b ∷ bs) lacks = stripped-next b p bs ps (eqb b p) refl lacks (stripped-none ps bs)

-- the word that `strip_prefix` returns
pub strips : (prefix word : List ℕ) (r : Option (Bor (List ℕ))) → MatchOption r (FindsTextPrefix prefix word None) (λ x. StripsPrefix (FindsTextPrefix prefix) word x.now)
    → option_map (λ x. x.now) r ≡ stripped prefix word
strips prefix word None lacks = sym (stripped-none prefix word lacks)
strips prefix word (Some x) found =
    let n = found.0 in
    let word_is : word ≡ prefix ++ drop n word = found.1.1 in
    ap Some found.2 ∙ sym (ap (stripped prefix) word_is ∙ stripped-some prefix (drop n word))

-- ---- where in a word what may be a key begins

module _ (word : List ℕ) (i : ℕ) (can_begin : Bool) (before : key_start word ≡ i + key_from can_begin (drop i word)) where
  -- the part of a word from there on is the word without what comes before
  abbrev pub part : List ℕ
  part = take (length word - i) (drop i word)

  key_from-part : i < length word → (is : Bool) → (can_begin && may_be_key part) ≡ is → key_from can_begin (drop i word) ≡ (if is then 0 else 1 + key_from (get_or word i 0 == 61) (drop (i + 1) word))
  key_from-part at is e =
      let bs = drop (i + 1) word in
      let b = get_or word i 0 in
      let cons : drop i word ≡ b ∷ bs = drop_more word i 0 at in
      let all : part ≡ drop i word = take_all (length word - i) (drop i word) (omega (arith, length-drop i word)) in
      grind (arith, cons, all, e)

  -- it begins here
  pub key_here : i < length word → (can_begin && may_be_key part) ≡ true → i ≡ key_start word
  key_here at is =
      omega (arith, before, key_from-part at true is)

  -- it begins later, if at all
  pub key_later : i < length word → (can_begin && may_be_key part) ≡ false → key_start word ≡ (i + 1) + key_from (get_or word i 0 == 61) (drop (i + 1) word)
  key_later at is =
      omega (arith, before, key_from-part at false is)

  -- it begins nowhere
  pub key_nowhere : length word ≤ i → i ≤ length word → length word ≡ key_start word
  key_nowhere past within =
      let none : key_from can_begin (drop i word) ≡ 0 = ap (key_from can_begin) (drop_all i word past) in
      omega (arith, before, none, past, within)

-- what may be a key is not shown
pub quoted_hidden : (word : List ℕ) → has_key word ≡ true → quoted_word word ≡ hidden_word
quoted_hidden word is = ap (λ (hides : Bool). if hides then hidden_word else codes "\"" ++ (flat_map shown_byte word ++ codes "\"")) is
