use Rattle.krb_audit.proofs.Cited.{◌≡◌, ◌++◌, take, flat_map, ABOUT_ENTRIES, finding_line}
use Rattle.krb_audit.proofs.report.append_findings.Given as goal

-- the lines of the findings so far are appended
abbrev pub invariant-findings : goal.invariant-findings
invariant-findings g l = l.out.items ≡ l.initial.out.items ++ flat_map (finding_line l.label l.left_out l.marked) (take l.finding-index ABOUT_ENTRIES)
