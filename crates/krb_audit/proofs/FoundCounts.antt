-- The entries of which a check has a finding are as many as have it.
use Rattle.krb_audit.proofs.Cited.{◌≡◌, ◌≢◌, ◌∙◌, sym, refl, arith, ℕ, ◌+◌, Bool, true, false, true≢false, not, ◌==◌, List, [], ◌∷◌, ◌++◌, length, map, cond, filter, PlacedEntry, placed_entries, CheckAsked, Marked, mapped_after, has_some, KeytabState}
use Rattle.std.specs.Prelude.{◌^◌, bit_and, bit_or, if◌then◌else◌}
use Rattle.std.specs.Int.{bit_at}
use Rattle.std.proofs.lemmas.Nat.Bits.{and_pow, bit_at_or, bit_at-pow_other, bit_at-pow_same, bit_at-zero}
use Rattle.krb_findings.specs.declared.finding.Finding.{Finding}
use Rattle.krb_findings.specs.declared.finding.Finding.TheVariants.{Weak, Same, Old, Nostrong}
use Rattle.krb_findings.specs.declared.finding_set.FindingSet.{FindingSet}
use Rattle.krb_findings.specs.Table.{has, set_of}
use Rattle.krb_audit.specs.Findings.{first_alike, is_found, marks_of, nothing_asked, repeats}
use Rattle.krb_audit.specs.Ranks.{kept_after}
use Rattle.krb_audit.specs.Laws.{CountsFindings, SelectsSame}

-- ---- the findings in a set that is made of them

-- the bits of a set, with one more finding if it holds
abbrev put : ℕ → Bool → ℕ → ℕ
put bits b j = bit_or bits (if b then 2 ^ j else 0)

other : (bits j k : ℕ) (b : Bool) → k ≢ j → bit_at (put bits b j) k ≡ bit_at bits k
other bits j k true apart = omega (arith, bit_at_or bits (2 ^ j) k, bit_at-pow_other j k apart)
other bits j k false apart = omega (arith, bit_at_or bits 0 k, bit_at-zero k)

same : (bits k : ℕ) (b : Bool) → bit_at bits k ≡ 0 → bit_at (put bits b k) k ≡ (if b then 1 else 0)
same bits k true none = omega (arith, none, bit_at_or bits (2 ^ k) k, bit_at-pow_same k)
same bits k false none = omega (arith, none, bit_at_or bits 0 k, bit_at-zero k)

apart : (k j : ℕ) → (k == j) ≡ false → k ≢ j
apart k j differ e = grind (arith, differ, e)

has_by : (bits k : ℕ) (b : Bool) → bit_at bits k ≡ (if b then 1 else 0) → not (bit_and bits (2 ^ k) == 0) ≡ b
has_by bits k true is = grind (arith, is, and_pow bits k)
has_by bits k false is = grind (arith, is, and_pow bits k)

module _ (test : Finding → Bool) where
  has_weak : has (set_of test) Weak ≡ test Weak
  has_weak = has_by (set_of test).bits 0 (test Weak) (
      other _ 11 0 _ (apart 0 11 refl) ∙ other _ 10 0 _ (apart 0 10 refl) ∙ other _ 7 0 _ (apart 0 7 refl) ∙ other _ 4 0 _ (apart 0 4 refl) ∙ other _ 3 0 _ (apart 0 3 refl)
      ∙ other _ 2 0 _ (apart 0 2 refl) ∙ other _ 1 0 _ (apart 0 1 refl) ∙ other _ 6 0 _ (apart 0 6 refl) ∙ same 0 0 (test Weak) (bit_at-zero 0))

  has_same : has (set_of test) Same ≡ test Same
  has_same = has_by (set_of test).bits 2 (test Same) (
      other _ 11 2 _ (apart 2 11 refl) ∙ other _ 10 2 _ (apart 2 10 refl) ∙ other _ 7 2 _ (apart 2 7 refl) ∙ other _ 4 2 _ (apart 2 4 refl) ∙ other _ 3 2 _ (apart 2 3 refl)
      ∙ same _ 2 (test Same) (other _ 1 2 _ (apart 2 1 refl) ∙ other _ 6 2 _ (apart 2 6 refl) ∙ other 0 0 2 (test Weak) (apart 2 0 refl) ∙ bit_at-zero 2))

  has_old : has (set_of test) Old ≡ test Old
  has_old = has_by (set_of test).bits 4 (test Old) (
      other _ 11 4 _ (apart 4 11 refl) ∙ other _ 10 4 _ (apart 4 10 refl) ∙ other _ 7 4 _ (apart 4 7 refl)
      ∙ same _ 4 (test Old) (other _ 3 4 _ (apart 4 3 refl) ∙ other _ 2 4 _ (apart 4 2 refl) ∙ other _ 1 4 _ (apart 4 1 refl) ∙ other _ 6 4 _ (apart 4 6 refl) ∙ other 0 0 4 (test Weak) (apart 4 0 refl) ∙ bit_at-zero 4))

  has_nostrong : has (set_of test) Nostrong ≡ test Nostrong
  has_nostrong = has_by (set_of test).bits 10 (test Nostrong) (
      other _ 11 10 _ (apart 10 11 refl)
      ∙ same _ 10 (test Nostrong) (
      other _ 7 10 _ (apart 10 7 refl) ∙ other _ 4 10 _ (apart 10 4 refl) ∙ other _ 3 10 _ (apart 10 3 refl) ∙ other _ 2 10 _ (apart 10 2 refl) ∙ other _ 1 10 _ (apart 10 1 refl)
      ∙ other _ 6 10 _ (apart 10 6 refl) ∙ other 0 0 10 (test Weak) (apart 10 0 refl) ∙ bit_at-zero 10))

-- ---- their numbers

-- a set with a finding has some
some_if : (s : FindingSet) (finding : Finding) → has s finding ≡ true → has_some s ≡ true
some_if s finding h = grind (arith, h)

-- those with a finding, of those with some
abbrev with_finding : Finding → List Marked → List Marked
with_finding finding ms = filter (λ m. has m.1.findings finding) (filter (λ m. has_some m.1.findings) ms)

one_counted : (finding : Finding) (m : Marked) (ms : List Marked) (bs : List Bool) (b some : Bool) → has m.1.findings finding ≡ b → has_some m.1.findings ≡ some → length (with_finding finding ms) ≡ length (filter (λ c. c) bs) → length (with_finding finding (m ∷ ms)) ≡ length (filter (λ c. c) (b ∷ bs))
one_counted finding m ms bs true true is is_some so_far = grind (arith, is, is_some, so_far)
one_counted finding m ms bs true false is is_some so_far = absurd (true≢false (sym (some_if m.1.findings finding is) ∙ is_some))
one_counted finding m ms bs false true is is_some so_far = grind (arith, is, is_some, so_far)
one_counted finding m ms bs false false is is_some so_far = grind (arith, is, is_some, so_far)

module _ (finding : Finding) (asked : CheckAsked) (k : KeytabState) (tie : (before : List PlacedEntry) (x : PlacedEntry) → has (marks_of asked k before x).findings finding ≡ is_found nothing_asked k before x finding) where
  counts : (before xs : List PlacedEntry) → length (with_finding finding (mapped_after (λ ys x. (x, marks_of asked k ys x)) before xs)) ≡ length (filter (λ b. b) (mapped_after (λ ys x. is_found nothing_asked k ys x finding) before xs))
  counts before [] = refl
  counts before (x ∷ xs) =
      let marked = mapped_after (λ ys y. (y, marks_of asked k ys y)) (before ++ x ∷ []) xs in
      let found = mapped_after (λ ys y. is_found nothing_asked k ys y finding) (before ++ x ∷ []) xs in
      one_counted finding (x, marks_of asked k before x) marked found _ _ (tie before x) refl (counts (before ++ x ∷ []) xs)

pub counts_weak : CountsFindings Weak
counts_weak mode asked k = counts Weak asked k (λ before x. has_weak (is_found asked k before x)) [] (placed_entries k)

pub counts_old : CountsFindings Old
counts_old mode asked k = counts Old asked k (λ before x. has_old (is_found asked k before x)) [] (placed_entries k)

pub counts_nostrong : CountsFindings Nostrong
counts_nostrong mode asked k = counts Nostrong asked k (λ before x. has_nostrong (is_found asked k before x)) [] (placed_entries k)

-- ---- the entries that repeat an earlier one

one_same : (m : Marked) (ms : List Marked) (xs : List PlacedEntry) (b some : Bool) → has m.1.findings Same ≡ b → has_some m.1.findings ≡ some → xs ≡ map (λ m. m.0) (with_finding Same ms) → cond b (m.0 ∷ xs) xs ≡ map (λ m. m.0) (with_finding Same (m ∷ ms))
one_same m ms xs true true is is_some so_far = grind (arith, is, is_some, so_far)
one_same m ms xs true false is is_some so_far = absurd (true≢false (sym (some_if m.1.findings Same is) ∙ is_some))
one_same m ms xs false true is is_some so_far = grind (arith, is, is_some, so_far)
one_same m ms xs false false is is_some so_far = grind (arith, is, is_some, so_far)

module _ (asked : CheckAsked) (k : KeytabState) where
  same_kept : (before xs : List PlacedEntry) → kept_after (λ ys x. repeats (first_alike ys x)) before xs ≡ map (λ m. m.0) (with_finding Same (mapped_after (λ ys x. (x, marks_of asked k ys x)) before xs))
  same_kept before [] = refl
  same_kept before (x ∷ xs) =
      one_same (x, marks_of asked k before x) (mapped_after (λ ys y. (y, marks_of asked k ys y)) (before ++ x ∷ []) xs) (kept_after (λ ys y. repeats (first_alike ys y)) (before ++ x ∷ []) xs) (repeats (first_alike before x)) _ (has_same (is_found asked k before x)) refl (same_kept (before ++ x ∷ []) xs)

pub selects_same : SelectsSame
selects_same mode asked now k = same_kept asked k [] (placed_entries k)
