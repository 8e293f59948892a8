use Rattle.std.proofs.lemmas.List.Concat.{flat_map_single}
use Rattle.krb_json.proofs.ForAnswers.{◌∷◌, ◌≤◌, [], arith, length, err_from_is_err_and, adds_next, adds_stop, take_all, match_value}
use Rattle.krb_json.proofs.matches.send_tickets.Goals as goal

pub returns-in_err-send_ticket : goal.returns-in_err-send_ticket
returns-in_err-send_ticket g c =
    let p = err_from_is_err_and c.from_residual.result c.from_residual.ensures.1 in
    rw (p.1, p.2, ← flat_map_single match_value c.args.tickets.now)
    (adds_stop (λ t. match_value t ∷ []) c.args.tickets.now c.tickets.ticket-index c.ticket-item.result c.tickets-test.true c.tickets.invariant (rw (← c.ticket-item.is) c.in_err-send_ticket.ensures))

pub tickets-preserved : goal.tickets-preserved
tickets-preserved g c = adds_next (λ t. match_value t ∷ []) c.args.tickets.now c.tickets.ticket-index c.ticket-item.result c.tickets-test.true c.tickets.invariant (rw (← c.ticket-item.is) c.in_ok-send_ticket.ensures)

pub returns : goal.returns
returns g c =
    let past : length c.args.tickets.now ≤ c.tickets.ticket-index = omega arith in
    rw (take_all _ c.args.tickets.now past, flat_map_single match_value c.args.tickets.now) at c.tickets.invariant
