-- Tables in columns, and numbers of things.
use Rattle.std.specs.Prelude.{ℕ, ◌+◌, ◌-◌, ◌==◌, nat_le, max, List, [], ◌∷◌, ◌++◌, length, map, replicate, codes, decimal, if◌then◌else◌, get_or}
use Rattle.std.specs.List.{flat_map, fold, range_with_len}

-- the cell of a row in a column, empty if the row has none
abbrev pub cell_of : ℕ → List (List ℕ) → List ℕ
cell_of column row = get_or row column []

-- the width that a cell asks for: its length, or nothing if it is over 40
abbrev pub asked_width : List ℕ → ℕ
asked_width cell = if nat_le (length cell) 40 then length cell else 0

-- the width of a column: the greatest that its cells ask for
abbrev pub column_width : ℕ → List (List (List ℕ)) → ℕ
column_width column rows = fold (λ width row. max width (asked_width (cell_of column row))) 0 rows

-- the width of a column, but none of the last: nothing is behind it
abbrev pub padded_width : ℕ → ℕ → List (List (List ℕ)) → ℕ
padded_width last column rows = if column == last then 0 else column_width column rows

-- the widths of the first columns
abbrev pub widths_to : ℕ → ℕ → List (List (List ℕ)) → List ℕ
widths_to last n rows = map (λ column. padded_width last column rows) (range_with_len 0 n)

-- the widths of columns
abbrev pub widths : ℕ → List (List (List ℕ)) → List ℕ
widths n rows = widths_to (n - 1) n rows

-- cells of a row after some blanks: each is filled up to its column's width, and two blanks are between columns
abbrev pub cells_behind : ℕ → List ℕ → List (List ℕ) → List ℕ
cells_behind blanks ws [] = []
cells_behind blanks [] (c ∷ cs) = []
cells_behind blanks (w ∷ ws) (c ∷ cs) = replicate blanks 32 ++ (c ++ cells_behind (w - length c + 2) ws cs)

-- the line of a row
abbrev pub row_text : List ℕ → List (List ℕ) → List ℕ
row_text ws row = cells_behind 0 ws row ++ codes "\n"

-- the table of rows under titles; without rows there is none
abbrev pub table : List (List ℕ) → List (List (List ℕ)) → List ℕ
table titles rows =
    if length rows == 0 then []
    else flat_map (row_text (widths (length titles) (titles ∷ rows))) (titles ∷ rows)

-- a number of things: a noun, with an `s` unless the number is 1
abbrev pub counted : ℕ → List ℕ → List ℕ
counted n noun = decimal n ++ (codes " " ++ (noun ++ (if n == 1 then [] else codes "s")))
