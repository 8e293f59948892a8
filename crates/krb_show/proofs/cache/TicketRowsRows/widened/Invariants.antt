use Rattle.krb_show.proofs.Cited.{◌≡◌, fold, map, placed_credentials, max, asked_width, cell_of, ticket_row, tickets}
use Rattle.krb_show.proofs.cache.TicketRowsRows.widened.Given as goal

-- the width so far, and the tickets to come, make that of all
abbrev pub invariant-credentials : goal.invariant-credentials
invariant-credentials g l = fold (λ w row. max w (asked_width (cell_of l.column row))) l.width (map (ticket_row l.clock) (tickets l.ticket-iterator)) ≡ fold (λ w row. max w (asked_width (cell_of l.column row))) l.least (map (ticket_row l.clock) (tickets (placed_credentials l.self.cache.now.state)))
