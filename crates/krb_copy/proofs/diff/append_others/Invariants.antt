use Rattle.krb_copy.proofs.Cited.{◌≡◌, ◌++◌, [], cond, take, flat_map, codes, placed_line}
use Rattle.krb_copy.proofs.diff.append_others.Given as goal

-- the lines of the rows so far were appended
abbrev pub invariant-rows : goal.invariant-rows
invariant-rows g l =
    l.out.items ≡ l.fn.out.items ++ flat_map (λ r. cond r.is_first (placed_line (codes "+ ") (r.place, r.entry.now)) []) (take l.row-index l.rows)
