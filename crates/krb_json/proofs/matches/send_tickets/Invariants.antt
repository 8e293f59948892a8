use Rattle.krb_json.proofs.Cited.{take, Ok, flat_map, ◌∷◌, [], Adds, match_value}
use Rattle.krb_json.proofs.matches.send_tickets.Given as goal

abbrev pub invariant-tickets : goal.invariant-tickets
invariant-tickets g l = Adds l.fn.out l.out l.fn.elements l.elements (Ok tt) (flat_map (λ t. match_value t ∷ []) (take l.ticket-index l.tickets))
