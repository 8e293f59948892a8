use Rattle.krb_show.proofs.Cited.{◌≡◌, fold, map, max, asked_width, cell_of, key_row}
use Rattle.krb_show.proofs.keytab.KeyRowsRows.widened.Given as goal

-- the width so far, and the lines to come, make that of all
abbrev pub invariant-lines : goal.invariant-lines
invariant-lines g l = fold (λ w row. max w (asked_width (cell_of l.column row))) l.width (map (key_row l.clock) l.key-iterator) ≡ fold (λ w row. max w (asked_width (cell_of l.column row))) l.least (map (key_row l.clock) l.self.lines.now.entries)
