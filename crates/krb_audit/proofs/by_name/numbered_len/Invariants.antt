use Rattle.krb_audit.proofs.Cited.{ℕ, ◌≤◌, take, All, HasPlace}
use Rattle.krb_audit.proofs.by_name.numbered_len.Given as goal

-- a list that is no shorter has a place at the number of each row so far
abbrev pub invariant-rows : goal.invariant-rows
invariant-rows l = (len : ℕ) → l.len ≤ len → All (HasPlace len) (take l.row-index l.rows)
