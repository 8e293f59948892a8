use Rattle.krb_json.proofs.Cited.{take, Ok, flat_map, Adds, name_finding}
use Rattle.krb_json.proofs.check.send_names.Given as goal

abbrev pub invariant-entries : goal.invariant-entries
invariant-entries g l = Adds l.fn.out l.out l.fn.elements l.elements (Ok tt) (flat_map (name_finding l.fn.finding) (take l.marked-index l.entries))
