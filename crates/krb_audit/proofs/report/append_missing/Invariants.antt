use Rattle.krb_audit.proofs.Cited.{◌≡◌, ◌++◌, take, flat_map, map, missing_line}
use Rattle.krb_audit.proofs.report.append_missing.Given as goal

-- the lines of the names so far are appended
abbrev pub invariant-names : goal.invariant-names
invariant-names g l = l.out.items ≡ l.initial.out.items ++ flat_map (missing_line l.label) (map (λ t. t.now) (take l.name-index l.names))
