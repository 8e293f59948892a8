use Rattle.krb_audit.proofs.Cited.{◌≡◌, ℕ, ◌+◌, ◌<◌, List, ◌++◌, length, take, get_or, flat_map, arith, flat_map_more, take_more, ABOUT_ENTRIES, finding_line}
use Rattle.krb_audit.proofs.report.append_findings.Goals as goal

lines_more : {X : Type 0} (f : X → List ℕ) (xs : List X) (i : ℕ) (d : X) (first old new : List ℕ) → i < length xs → old ≡ first ++ flat_map f (take i xs) → new ≡ old ++ f (get_or xs i d) → new ≡ first ++ flat_map f (take (i + 1) xs)
lines_more f xs i d first old new lt is more = search (arith, flat_map_more, take_more)

pub findings-preserved : goal.findings-preserved
findings-preserved g c =
    let below : c.findings.finding-index < length ABOUT_ENTRIES = omega arith in
    lines_more (finding_line c.args.label.now c.args.left_out c.args.marked.now) ABOUT_ENTRIES c.findings.finding-index _ _ _ _ below c.findings.invariant c.in_ok-append_finding.ensures
