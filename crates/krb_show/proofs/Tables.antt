-- Widths found column by column, and rows appended cell by cell.
use Rattle.krb_show.proofs.Cited.{◌≡◌, ◌++◌, ◌+◌, ◌-◌, ℕ, List, [], ◌∷◌, length, append_assoc, append-nil, ◌⊎◌, replicate, arith, cells_behind, padded_width, widths_to}
use Rattle.std.proofs.lemmas.List.FromFn.{map-range_with_len_more}

-- the width of one more column
pub more_columns : (last n w : ℕ) (rows : List (List (List ℕ))) (new old : List ℕ) → new ≡ old ++ w ∷ [] → w ≡ padded_width last n rows
    → old ≡ widths_to last n rows → new ≡ widths_to last (n + 1) rows
more_columns last n w rows new old is_new is_width is_old =
    grind (arith, is_new, is_width, is_old, map-range_with_len_more (λ k. padded_width last k rows) 0 n n)

-- the next cell was appended behind its blanks
pub put_cell : (before after whole : List ℕ) (blanks next w : ℕ) (ws vs cell : List ℕ) (cs ds : List (List ℕ))
    → ws ≡ w ∷ vs → cs ≡ cell ∷ ds → after ≡ before ++ (replicate blanks 32 ++ cell) → next ≡ w - length cell + 2
    → before ++ cells_behind blanks ws cs ≡ whole → after ++ cells_behind next vs ds ≡ whole
put_cell before after whole blanks next w ws vs cell cs ds is_ws is_cs is_after is_next e =
    grind (arith, append_assoc, is_ws, is_cs, is_after, is_next, e)

-- no cell is left, or no column
pub all_put : (before whole : List ℕ) (blanks : ℕ) (ws : List ℕ) (cs : List (List ℕ)) → (cs ≡ []) ⊎ (ws ≡ [])
    → before ++ cells_behind blanks ws cs ≡ whole → before ≡ whole
all_put before whole blanks ws [] none e = grind (arith, append-nil, e)
all_put before whole blanks ws (c ∷ cs) none e = grind (arith, append-nil, none, e)
