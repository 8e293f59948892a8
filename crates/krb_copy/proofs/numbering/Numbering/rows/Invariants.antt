use Rattle.krb_copy.proofs.Cited.{◌≡◌, ◌++◌, List, drop, map, take, PlacedEntry, IsNumbering, rows_due, shown}
use Rattle.krb_copy.proofs.numbering.Numbering.rows.Given as goal

-- the entries so far have their rows, and the others are still to come
abbrev pub invariant-entries : goal.invariant-entries
invariant-entries g l = (all before rest : List PlacedEntry) → IsNumbering all before (l.entries ++ rest) l.fn.self
    → (map shown l.rows.items ++ rows_due all (before ++ take l.place-index l.entries) (drop l.place-index l.entries) ≡ rows_due all before l.entries)
    × IsNumbering all (before ++ take l.place-index l.entries) (drop l.place-index l.entries ++ rest) l.self
