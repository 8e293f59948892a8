-- Lines that were read from an input, which is split at newlines.
use Rattle.krb_ktutil.proofs.Cited.{◌==◌, false, onto_first, ◌≡◌, ℕ, ◌+◌, ◌-◌, ◌<◌, ◌≤◌, List, [], ◌∷◌, ◌++◌, length, take, drop, Option, Some, refl, sym, ap, subst, ◌∙◌, arith, length-append, append_assoc, append-nil, take-add, slice_range, lines_of, HasNone, Grows, drop-drop, Keeps, take-append-drop, take-take, IsFirst, inl, inr, IfSome, length-drop, nat_lt, IsAtEnd, drop_all, InputParts, ReadsLine, AreFirst, nil_from_length, common_steps, Consumes-trans, true, Consumes, with_newlines, flat_map-append, IsSpent, IsWithin, HasNoMore, CutsOff, most_bytes, ◌⊎◌, nat_tests, AllByRecursion}
use Rattle.krb_wire.proofs.Lists.{all_front, all_join}
use Rattle.std.proofs.lemmas.List.Folds.{drop_split}

-- ---- bytes that grow

-- a read that failed has taken nothing
pub Grows-none : (old new : List ℕ) (left left' : Option (List ℕ)) → new ≡ old → Keeps left left' → Grows old new left left'
Grows-none old new left left' e k = record { given = []; read = e ∙ sym (append-nil old); consumes = grind arith }

-- two reads, one after the other
pub Grows-trans : (a b c : List ℕ) (l m n : Option (List ℕ)) → Grows a b l m → Grows b c m n → Grows a c l n
Grows-trans a b c l m n p q = record {
  given = p.given ++ q.given;
  read = q.read ∙ ap (λ (xs : List ℕ). xs ++ q.given) p.read ∙ append_assoc a p.given q.given;
  consumes = Consumes-trans l m n p.given q.given p.consumes q.consumes;
}

-- ---- parts without a newline

-- two adjacent ranges
parts_touch : (xs : List ℕ) (a b c : ℕ) → a ≤ b → b ≤ c → slice_range xs a c ≡ slice_range xs a b ++ slice_range xs b c
parts_touch xs a b c p q = grind (arith, take-add (b - a) (c - b) (drop a xs), drop-drop (b - a) a xs)

abbrev IsOther : ℕ → Type 0
IsOther b = (b == 10) ≡ false

-- no newline in a prefix, if there is none at all
HasNone-take : (n : ℕ) (xs : List ℕ) → HasNone xs → HasNone (take n xs)
HasNone-take n xs h = all_front IsOther (take n xs) (drop n xs) (rw take-append-drop h)

-- no newline up to a place, if there is none up to a later one
pub HasNone-sooner : (xs : List ℕ) (a end most : ℕ) → most ≤ end → HasNone (slice_range xs a end) → HasNone (slice_range xs a most)
HasNone-sooner xs a end most le h = subst HasNone (take-take (most - a) (end - a) (drop a xs) (omega (arith, le))) (HasNone-take (most - a) (slice_range xs a end) h)

-- the first newline from one place on is that from an earlier one, if there is none between
pub IsFirst-earlier : (xs : List ℕ) (a b c : ℕ) → a ≤ b → HasNone (slice_range xs a b) → IsFirst xs b c → IsFirst xs a c
IsFirst-earlier xs a b c le none first = grind (arith, first.ahead, first.before, first.rest, parts_touch xs a b c, all_join IsOther (slice_range xs a b) (slice_range xs b c))

-- no newline from an earlier place on, if there is none between and none after
pub HasNone-earlier : (xs : List ℕ) (a b : ℕ) → a ≤ b → HasNone (slice_range xs a b) → HasNone (drop b xs) → HasNone (drop a xs)
HasNone-earlier xs a b le none rest = grind (arith, drop_split xs a b le, all_join IsOther (slice_range xs a b) (drop b xs))

-- nor up to another place
pub none_up_to : (xs : List ℕ) (a b most : ℕ) → a ≤ b → HasNone (slice_range xs a b) → HasNone (drop b xs) → HasNone (slice_range xs a most)
none_up_to xs a b most le none rest = HasNone-take (most - a) (drop a xs) (HasNone-earlier xs a b le none rest)

-- the bytes up to the old end have no newline, also after a read
pub HasNone-grown : (old new given : List ℕ) (a : ℕ) → new ≡ old ++ given → a ≤ length old → HasNone (drop a old) → HasNone (slice_range new a (length old))
HasNone-grown old new given a e le none = grind (arith, common_steps)

-- ---- lines

-- the first line ends at the first newline
lines-first : (xs ys : List ℕ) → HasNone xs → lines_of (xs ++ 10 ∷ ys) ≡ xs ∷ lines_of ys
lines-first [] ys h = refl
lines-first (x ∷ xs) ys h = grind (arith, lines-first xs ys h.1)

-- without a newline the bytes are one line, if there are any
line-alone : (line : List ℕ) → HasNone line → 0 < length line → lines_of line ≡ line ∷ []
line-alone [] h some = absurd (omega (arith, some))
line-alone (b ∷ []) h some = rw h.0 refl
line-alone (b ∷ c ∷ bs) h some = rw h.0 (ap (onto_first b) (line-alone (c ∷ bs) h.1 (omega arith)))

-- a read that gave no byte has left the bytes as they were
pub none-given : (old new given : List ℕ) → new ≡ old ++ given → length new ≡ length old → new ≡ old
none-given old new given e same = grind (arith, common_steps, nil_from_length)

-- what a read leaves of the search for a newline
pub ruleset newlines = (IsFirst-earlier, HasNone-earlier, Grows-none, Grows-trans, none-given)

-- ---- a line that was read

-- the bytes up to the first newline from a place on
up_to_newline : (xs : List ℕ) (a end : ℕ) → IsFirst xs a end → take (end + 1) xs ≡ take a xs ++ (slice_range xs a end ++ 10 ∷ [])
up_to_newline xs a end first =
    let ahead = first.ahead in
    let rest = first.rest in
    grind (arith, take-add end 1 xs, take-add a (end - a) xs, append_assoc (take a xs) (slice_range xs a end) (10 ∷ []))

-- a line was read up to a newline
pub ReadsLine-first : (old new : InputParts) (left left' : Option (List ℕ)) (end : ℕ) → old.next ≤ length old.read → IsFirst new.read old.next end → Grows old.read new.read left left'
    → new.line ≡ slice_range new.read old.next end → new.next ≡ end + 1 → end < 16777216 → ReadsLine true old new left'
ReadsLine-first old new left left' end le is grows line next most =
    let front : take old.next new.read ≡ take old.next old.read = grind (arith, common_steps, grows.read) in
    grind (arith, nat_tests, is.ahead, is.before, up_to_newline new.read old.next end is, front)

-- what is left at the end of the input is a line, or nothing is left
pub ReadsLine-last : (old new : InputParts) (left : Option (List ℕ)) → HasNone (drop old.next new.read) → IsAtEnd left
    → new.line ≡ slice_range new.read old.next (length new.read) → new.next ≡ length new.read → ReadsLine (nat_lt old.next (length new.read)) old new left
ReadsLine-last old new left none end line next =
    let rest : new.line ≡ drop old.next new.read = grind (arith, common_steps, line) in
    grind (arith, none, end)

-- ---- the lines of an input

-- an input has these lines and no more
abbrev pub AreLines : Option (List ℕ) → List (List ℕ) → Type 0
AreLines given lines = IfSome given (λ bytes. lines_of bytes ≡ lines)

-- the lines of a text that begins with lines, each with its newline
lines_begin : (lines : List (List ℕ)) (rest : List ℕ) → AllByRecursion HasNone lines → lines_of (with_newlines lines ++ rest) ≡ lines ++ lines_of rest
lines_begin [] rest h = refl
lines_begin (line ∷ lines) rest h = simp append_assoc (lines-first line (with_newlines lines ++ rest) h.0 ∙ ap (λ (others : List (List ℕ)). line ∷ others) (lines_begin lines rest h.1))

-- one more line with its newline
newline_more : (lines : List (List ℕ)) (line : List ℕ) → with_newlines (lines ++ line ∷ []) ≡ with_newlines lines ++ (line ++ 10 ∷ [])
newline_more lines line = simp (flat_map-append, append-nil)

-- what was read up to the next line is these lines, each with its newline
pub record AreEnded (lines : List (List ℕ)) (input : InputParts) : Type 0 where
  pub within : input.next ≤ 16777216
  pub read : take input.next input.read ≡ with_newlines lines
  pub none : AllByRecursion HasNone lines

-- that, or an input that is known has ended, and these are all its lines
abbrev pub HasRead : Option (List ℕ) → List (List ℕ) → InputParts → Option (List ℕ) → Type 0
HasRead given lines input left = AreEnded lines input ⊎ IfSome given (λ bytes. (lines_of bytes ≡ lines) × IsSpent input left)

pub if_some : {P Q : List ℕ → Type 0} (given : Option (List ℕ)) → ((bytes : List ℕ) → P bytes → Q bytes) → IfSome given P → IfSome given Q
if_some given f h = grind (arith, f)

-- what is known of an input is what was read of it and what is left
pub consumed_as : (given left : Option (List ℕ)) (read : List ℕ) → Consumes given left read → IfSome given (λ bytes. (more : List ℕ) × ((left ≡ Some more) × (bytes ≡ read ++ more)))
consumed_as given left read consumes = grind arith

lines_come : (lines : List (List ℕ)) (bytes read rest more : List ℕ) → bytes ≡ read ++ more → read ≡ with_newlines lines ++ rest → AllByRecursion HasNone lines → lines_of bytes ≡ lines ++ lines_of (rest ++ more)
lines_come lines bytes read rest more is parts none = grind (arith, append_assoc, lines_begin lines (rest ++ more) none)

-- the lines that were read are the first of the input
pub HasRead-first : (given : Option (List ℕ)) (lines : List (List ℕ)) (input : InputParts) (left : Option (List ℕ)) → HasRead given lines input left → Consumes given left input.read → AreFirst lines given
HasRead-first given lines input left (inr all) consumes = if_some given (λ bytes is. ([], is.0 ∙ sym (append-nil lines))) all
HasRead-first given lines input left (inl ended) consumes =
    let rest = drop input.next input.read in
    let parts : input.read ≡ with_newlines lines ++ rest = grind (arith, take-append-drop input.next input.read, ended.read) in
    if_some given (λ bytes c. (lines_of (rest ++ c.0), lines_come lines bytes input.read rest c.0 c.1.1 parts ended.none)) (consumed_as given left input.read consumes)

-- after its end an input that is known gives no line
no_further : (given left left' : Option (List ℕ)) (old new : InputParts) (P Q : List ℕ → Type 0) → Consumes given left old.read → IfSome given (λ bytes. P bytes × IsSpent old left) → Grows old.read new.read left left' → old.next < length new.read → IfSome given Q
no_further given left left' old new P Q consumes all grows more = grind (arith, consumes, grows.consumes, all, grows.read, common_steps, length-append)

-- an input is read further
module _ (given left left' : Option (List ℕ)) (lines : List (List ℕ)) (old new : InputParts) (within : IsWithin old) (consumes : Consumes given left old.read) (grows : Grows old.read new.read left left') where
  pub consumed : Consumes given left' new.read
  consumed = rw grows.read (Consumes-trans given left left' old.read grows.given consumes grows.consumes)

  front : take old.next new.read ≡ take old.next old.read
  front = grind (arith, common_steps, within.next, grows.read)

  rest_lines : AreEnded lines old → IsAtEnd left' → AreLines given (lines ++ lines_of (drop old.next new.read))
  rest_lines ended end =
      let rest = drop old.next new.read in
      let parts : new.read ≡ with_newlines lines ++ rest = grind (arith, take-append-drop old.next new.read, front, ended.read) in
      if_some given (λ bytes c. lines_come lines bytes new.read rest c.0 c.1.1 parts ended.none ∙ ap (λ (bs : List ℕ). lines ++ lines_of bs) (ap (λ (bs : List ℕ). rest ++ bs) (subst IsAtEnd c.1.0 end) ∙ append-nil rest))
      (consumed_as given left' new.read consumed)

  -- one more line was read
  pub HasRead-line : ReadsLine true old new left' → IsWithin new → HasRead given lines old left → HasRead given (lines ++ new.line ∷ []) new left'
  HasRead-line reads within' has =
      let rest = rest_lines in
      let none = all_join HasNone lines (new.line ∷ []) in
      let alone = line-alone new.line reads.none in
      let no_more = no_further given left left' old new (λ bytes. lines_of bytes ≡ lines) (λ bytes. (lines_of bytes ≡ lines ++ new.line ∷ []) × IsSpent new left') consumes in
      grind (arith, nat_tests, reads.further, reads.none, reads.ends, has, rest, newline_more lines new.line, none, alone, no_more, grows, within'.next, length-drop)

  -- there was no further line
  pub HasRead-end : ReadsLine false old new left' → HasRead given lines old left → AreLines given lines
  HasRead-end reads has =
      let rest = rest_lines in
      grind (arith, nat_tests, reads.further, reads.ends, has, rest, drop_all, append-nil)

  -- of what was read each line that has its newline was run
  pub due_of : HasNoMore old new → AreEnded lines old → CutsOff lines (take most_bytes new.read)
  due_of no_more ended =
      let sum : most_bytes ≡ old.next + (most_bytes - old.next) = omega (arith, ended.within) in
      let rest = slice_range new.read old.next most_bytes in
      let parts = ap (λ (n : ℕ). take n new.read) sum ∙ take-add old.next (most_bytes - old.next) new.read ∙ ap (λ (bs : List ℕ). bs ++ rest) (front ∙ ended.read) in
      record { rest = rest; none = rw no_more.same at no_more.none; bytes_are = parts }
