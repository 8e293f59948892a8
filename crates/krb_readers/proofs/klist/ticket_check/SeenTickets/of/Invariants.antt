use Rattle.krb_readers.proofs.Cited.{placed_credentials, SeesSoFar}
use Rattle.krb_readers.proofs.klist.ticket_check.SeenTickets.of.Given as goal

-- what was seen of the credentials so far
abbrev pub invariant-credentials : goal.invariant-credentials
invariant-credentials g l = SeesSoFar l.realm l.place-iterator (placed_credentials l.cache.state) l.seen
