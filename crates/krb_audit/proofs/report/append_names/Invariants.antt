use Rattle.krb_audit.proofs.Cited.{◌≡◌, ◌++◌, take, flat_map, name_line}
use Rattle.krb_audit.proofs.report.append_names.Given as goal

-- the lines of the entries so far are appended
abbrev pub invariant-entries : goal.invariant-entries
invariant-entries g l = l.out.items ≡ l.initial.out.items ++ flat_map (name_line l.label l.left_out l.fn.finding) (take l.marked-index l.entries)
