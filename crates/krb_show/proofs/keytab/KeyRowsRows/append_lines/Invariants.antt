use Rattle.krb_show.proofs.Cited.{◌≡◌, ◌++◌, flat_map, map, row_text, key_row}
use Rattle.krb_show.proofs.keytab.KeyRowsRows.append_lines.Given as goal

-- the lines so far, and those to come, are all
abbrev pub invariant-lines : goal.invariant-lines
invariant-lines g l = l.out.items ++ flat_map (row_text l.widths) (map (key_row l.clock) l.key-iterator) ≡ l.fn.out.items ++ flat_map (row_text l.widths) (map (key_row l.clock) l.self.lines.now.entries)
