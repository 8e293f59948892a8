use Rattle.krb_audit.proofs.Cited.{◌≡◌, arith, ℕ, ◌+◌, ◌<◌, List, length, take, get_or, fold, not, counts_at, with_if, FINDINGS}
use Rattle.std.proofs.lemmas.List.Sums.{fold_more}
use Rattle.krb_audit.proofs.check.with_uncounted.Goals as goal

folded_more : {X Y : Type 0} (f : Y → X → Y) (a : Y) (xs : List X) (i : ℕ) (d : X) (old new : Y) → i < length xs → old ≡ fold f a (take i xs) → new ≡ f old (get_or xs i d) → new ≡ fold f a (take (i + 1) xs)
folded_more f a xs i d old new lt is more = search (arith, fold_more)

pub findings-preserved : goal.findings-preserved
findings-preserved c =
    let below : c.findings.finding-index < length FINDINGS = omega arith in
    folded_more (λ s f. with_if (not (counts_at c.args.mode f)) f s) c.args.allowed FINDINGS c.findings.finding-index _ _ _ below c.findings.invariant
    (rw c.counts_at.ensures at c.with_if-uncounted.ensures)
