use Rattle.krb_audit.proofs.ForAnswers.{◌≡◌, map, take, numbered_rows, rank_row, shown_rank}
use Rattle.krb_audit.proofs.ranks.ranks_of.Given as goal

-- the rows so far are ranked
abbrev pub invariant-rows : goal.invariant-rows
invariant-rows g l = map shown_rank l.ranks.items ≡ numbered_rows (rank_row l.newest l.strong) 0 (take l.row-index l.rows)
