use Rattle.krb_cells.proofs.Cited.{◌≡◌, ◌++◌, take, drop, map, given_at}
use Rattle.krb_cells.proofs.carry.carry_all.Given as goal

-- the cursors before are carried, the others are as they were
abbrev pub invariant-loop-cursor : goal.invariant-loop-cursor
invariant-loop-cursor l = l.cursors ≡ map (given_at l.image l.end l.last) (take l.cursor-index l.fn.cursors) ++ drop l.cursor-index l.fn.cursors
