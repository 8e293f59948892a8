use Rattle.krb_audit.proofs.Cited.{◌∙◌, List, sym, subst, PlacedCredential, placed_credentials, SelectsSoFar}
use Rattle.krb_audit.proofs.tickets.select_tickets.Goals as goal

-- the next credential was added if it is selected
pub credentials-preserved : goal.credentials-preserved
credentials-preserved g c =
    let all = placed_credentials c.args.cache.now.state in
    let servers = c.credentials.invariant.servers in
    let considered = c.in_ok-consider.ensures.added c.next.new.self all (rw servers (subst (λ (xs : List PlacedCredential). SelectsSoFar c.args.label.now c.args.criteria.now.servers.now c.args.criteria.now.all_services c.args.criteria.now.ended_by xs all c.credentials.selected) c.in-Some.ensures.steps c.credentials.invariant.selected)) in
    record { servers = c.in_ok-consider.ensures.kept ∙ servers; selected = rw (sym servers) considered }
