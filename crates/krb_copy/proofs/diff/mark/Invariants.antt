use Rattle.krb_copy.proofs.Cited.{◌≡◌, take, fold, marked}
use Rattle.krb_copy.proofs.diff.mark.Given as goal

-- the rows so far have marked
abbrev pub invariant-rows : goal.invariant-rows
invariant-rows g l = l.marks.items ≡ fold (marked l.keys) l.fn.marks.items (take l.row-index l.rows)
