use Rattle.krb_copy.proofs.Cited.{◌≡◌, ◌++◌, [], cond, take, flat_map, false, get_or, first_place, row_line}
use Rattle.krb_copy.proofs.diff.append_ours.Given as goal

-- the lines of the rows so far were appended
abbrev pub invariant-rows : goal.invariant-rows
invariant-rows g l =
    l.out.items
    ≡ l.fn.out.items ++ flat_map (λ r. cond r.is_first (row_line (r.place, r.entry.now) (get_or l.marks r.number false) (first_place l.others r.number)) []) (take l.row-index l.rows)
