use Rattle.krb_json.proofs.Cited.{take, Ok, flat_map, entry_findings, Adds}
use Rattle.krb_json.proofs.check.send_entries.Given as goal

abbrev pub invariant-entries : goal.invariant-entries
invariant-entries g l = Adds l.fn.out l.out l.fn.elements l.elements (Ok tt) (flat_map entry_findings (take l.marked-index l.entries))
