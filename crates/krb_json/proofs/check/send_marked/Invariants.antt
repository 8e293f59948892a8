use Rattle.krb_json.proofs.Cited.{take, Ok, flat_map, entry_finding, Adds, ABOUT_ENTRIES}
use Rattle.krb_json.proofs.check.send_marked.Given as goal

abbrev pub invariant-findings : goal.invariant-findings
invariant-findings g l = Adds l.fn.out l.out l.fn.elements l.elements (Ok tt) (flat_map (entry_finding l.marked) (take l.finding-index ABOUT_ENTRIES))
