use Rattle.krb_audit.proofs.Cited.{◌≡◌, take, fold, not, counts_at, with_if, FINDINGS}
use Rattle.krb_audit.proofs.check.with_uncounted.Given as goal

-- the findings so far are counted, or not
abbrev pub invariant-findings : goal.invariant-findings
invariant-findings l = l.uncounted ≡ fold (λ s f. with_if (not (counts_at l.mode f)) f s) l.fn.allowed (take l.finding-index FINDINGS)
