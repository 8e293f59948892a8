-- The ranks of entries, from their rows.
use Rattle.krb_audit.specs.declared.ranks.Rank.{Rank}
use Rattle.krb_audit.proofs.Cited.{◌<◌, take, take_more, map, map_push, length-map, RankParts, shown_rank, ◌≡◌, ◌∙◌, ap, sym, refl, arith, ℕ, ◌+◌, ◌==◌, Bool, true, List, [], ◌∷◌, ◌++◌, length, length-append, append_assoc, eq-eqb, eqb-true, get_or, Option, Some, option_map, option_map_or, not, list_any, EntryParts, PlacedEntry, Row, Stamp, have_same_name, AreRows, AreNewest, AreStrong, numbered_rows, rank_row, rank_of, mapped_after, is_first, newest, stamp_of, first_number}
use Rattle.std.specs.List.{position_from}
use Rattle.krb_names.proofs.SameNames.{same_equiv}
use Rattle.krb_audit.proofs.NewestStamps.{old_row}
use Rattle.krb_audit.proofs.RowLemmas.{IsRow, head_row, other_rows}

-- the rows so far, and one more
numbered_more : {X : Type 0} (f : ℕ → Row → X) (n : ℕ) (rows : List Row) (r : Row) → numbered_rows f n (rows ++ r ∷ []) ≡ numbered_rows f n rows ++ f (n + length rows) r ∷ []
numbered_more f n [] r = let same : n ≡ n + 0 = omega arith in ap (λ k. f k r ∷ []) same
numbered_more f n (s ∷ rows) r = grind (arith, numbered_more f (n + 1) rows r)

numbered_len : {X : Type 0} (f : ℕ → Row → X) (n : ℕ) (rows : List Row) → length (numbered_rows f n rows) ≡ length rows
numbered_len f n [] = refl
numbered_len f n (r ∷ rows) = grind (arith, numbered_len f (n + 1) rows)

-- the next row is ranked
pub next_ranked : (f : ℕ → Row → RankParts) (rows : List Row) (i n : ℕ) (d : Row) (ranks new : List Rank) (rank : Rank) → i < length rows → n ≡ length ranks → shown_rank rank ≡ f n (get_or rows i d) → new ≡ ranks ++ rank ∷ [] → map shown_rank ranks ≡ numbered_rows f 0 (take i rows)
    → map shown_rank new ≡ numbered_rows f 0 (take (i + 1) rows)
next_ranked f rows i n d ranks new rank below is_n is_rank is_new so_far =
    let len : n ≡ 0 + length (take i rows) = omega (arith, is_n, length-map ranks shown_rank, ap length so_far, numbered_len f 0 (take i rows)) in
    ap (map shown_rank) is_new ∙ map_push shown_rank ranks rank ∙ (λ j. so_far j ++ (is_rank ∙ ap (λ k. f k (get_or rows i d)) len) j ∷ [])
    ∙ sym (numbered_more f 0 (take i rows) (get_or rows i d)) ∙ ap (numbered_rows f 0) (sym (take_more rows i d below))

-- as much is read as there are entries
pub mapped_len : {X : Type 0} (read : List PlacedEntry → PlacedEntry → X) (before xs : List PlacedEntry) → length (mapped_after read before xs) ≡ length xs
mapped_len read before [] = refl
mapped_len read before (x ∷ xs) = grind (arith, mapped_len read (before ++ x ∷ []) xs)

-- the first of some elements that pass, of which one is known, is that one iff none before it passes
first_here : (t : PlacedEntry → Bool) (n i m : ℕ) (before rest : List PlacedEntry) (x : PlacedEntry) → n + length before ≡ m → t x ≡ true → position_from t n (before ++ x ∷ rest) ≡ Some i → (i == m) ≡ not (list_any t before)
first_here t n i m [] rest x len at is = grind (arith, len, at, is, eq-eqb i m)
first_here t n i m (y ∷ ys) rest x len at is = grind (arith, len, at, is, eqb-true i m, first_here t (n + 1) i m ys rest x (omega (arith, len)) at)

newest_is : (o : Option EntryParts) → option_map_or (λ s. s.kvno) (option_map stamp_of o) 0 ≡ option_map_or (λ e. e.version) o 0
newest_is o = grind arith

module _ (all : List PlacedEntry) (newest_list : List (Option Stamp)) (strong : List Bool) (stamps : AreNewest all all newest_list) (marks : AreStrong all strong) where
  -- a row ranks as its entry
  one_ranked : (before rest : List PlacedEntry) (x : PlacedEntry) (r : Row) → before ++ x ∷ rest ≡ all → IsRow all x r → rank_row newest_list strong (length before) r ≡ rank_of all before x
  one_ranked before rest x r parts is =
      let stamp = ap (λ (o : Option Stamp). option_map_or (λ s. s.kvno) o 0) (stamps x.1.principal r.first is.first) ∙ newest_is (newest x.1.principal all) in
      let here = first_here (λ y. have_same_name x.1.principal y.1.principal) 0 r.first (length before) before rest x (omega arith) (same_equiv.refl x.1.principal) (ap (first_number x.1.principal) parts ∙ is.first) in
      λ i. record {
        first = sym is.first i;
        newest = stamp i;
        is_first = here i;
        is_old = old_row all all newest_list r x stamps is i;
        lacks_strong = not (marks x.1.principal r.first is.first i);
      }

  pub ranked : (before xs : List PlacedEntry) (rows : List Row) → before ++ xs ≡ all → AreRows all xs rows → numbered_rows (rank_row newest_list strong) (length before) rows ≡ mapped_after (rank_of all) before xs
  ranked before [] [] parts are = refl
  ranked before [] (r ∷ rs) parts are = absurd cc
  ranked before (x ∷ xs) [] parts are = absurd cc
  ranked before (x ∷ xs) (r ∷ rs) parts are =
      let here = one_ranked before xs x r parts (head_row all xs x r rs are) in
      let rest = ap (λ n. numbered_rows (rank_row newest_list strong) n rs) (sym (length-append before (x ∷ []))) ∙ ranked (before ++ x ∷ []) xs rs (append_assoc before (x ∷ []) xs ∙ parts) (other_rows all xs x r rs are) in
      λ i. here i ∷ rest i
