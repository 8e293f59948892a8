use Rattle.krb_audit.proofs.Cited.{◌≡◌, placed_credentials, SelectsSoFar}
use Rattle.krb_audit.proofs.tickets.select_tickets.Given as goal

-- the selected ones of the credentials so far were added
abbrev pub invariant-credentials : goal.invariant-credentials
invariant-credentials g l = record {
  servers : l.servers ≡ l.criteria.servers.now;
  selected : SelectsSoFar l.label l.criteria.servers.now l.criteria.all_services l.criteria.ended_by l.place-iterator (placed_credentials l.cache.state) l.selected;
}
