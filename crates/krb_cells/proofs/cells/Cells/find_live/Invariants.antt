use Rattle.krb_cells.proofs.Cited.{◌≡◌, live_bytes}
use Rattle.krb_cells.proofs.cells.Cells.find_live.Given as goal

-- the look-up in the rest gives the same as in all cells
abbrev pub invariant-loop-at : goal.invariant-loop-at
invariant-loop-at g l = live_bytes l.at-iterator l.place ≡ live_bytes l.fn.self l.place
