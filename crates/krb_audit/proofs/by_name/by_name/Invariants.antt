use Rattle.krb_audit.proofs.ForAnswers.{◌≡◌, ℕ, length, take, get_or, fold, at_number}
use Rattle.krb_audit.proofs.by_name.by_name.Given as goal

-- each number has the steps of the rows so far that have it
abbrev pub invariant-rows : goal.invariant-rows
invariant-rows g l = record {
  len : length l.list.items ≡ l.len;
  kept : (i : ℕ) → get_or l.list.items i l.none ≡ fold (at_number (g.K.Kept.step l.kept) i) l.none (take l.row-index l.rows);
}
