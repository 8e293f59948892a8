use Rattle.krb_audit.proofs.Cited.{◌≡◌, ◌++◌, take, flat_map, finding_lines}
use Rattle.krb_audit.proofs.report.append_entries.Given as goal

-- the lines of the entries so far are appended
abbrev pub invariant-entries : goal.invariant-entries
invariant-entries g l = l.out.items ≡ l.initial.out.items ++ flat_map (finding_lines l.label l.left_out) (take l.marked-index l.entries)
