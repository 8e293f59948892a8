use Rattle.std.proofs.Common.{◌≡◌, ◌++◌}
use Rattle.krb_ccache.specs.Store.{placed_credentials}
use Rattle.good_tickets.specs.Tickets.{good_tickets}
use Rattle.good_tickets.proofs.tickets.good_tickets.Given as goal

-- the lines so far, and those of the credentials that are still to come
abbrev pub invariant-credentials : goal.invariant-credentials
invariant-credentials g l = l.lines.items ++ good_tickets l.now l.credential-iterator ≡ good_tickets l.now (placed_credentials l.cache.state)
