use Rattle.krb_show.proofs.Cited.{◌≡◌, ◌++◌, flat_map, map, placed_credentials, row_text, ticket_row, tickets}
use Rattle.krb_show.proofs.cache.TicketRowsRows.append_lines.Given as goal

-- the lines so far, and those of the tickets to come, are all
abbrev pub invariant-credentials : goal.invariant-credentials
invariant-credentials g l = l.out.items ++ flat_map (row_text l.widths) (map (ticket_row l.clock) (tickets l.ticket-iterator)) ≡ l.fn.out.items ++ flat_map (row_text l.widths) (map (ticket_row l.clock) (tickets (placed_credentials l.self.cache.now.state)))
