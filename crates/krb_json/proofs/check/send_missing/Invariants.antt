use Rattle.krb_json.proofs.Cited.{take, Ok, flat_map, ◌∷◌, [], missing_value, Adds}
use Rattle.krb_json.proofs.check.send_missing.Given as goal

abbrev pub invariant-names : goal.invariant-names
invariant-names g l = Adds l.fn.out l.out l.fn.elements l.elements (Ok tt) (flat_map (λ t. missing_value t.now ∷ []) (take l.name-index l.names))
