use Rattle.krb_match.proofs.ForAnswers.{List, subst, is_some, PlacedCredential, placed_credentials, AreMatched, looked_at, all_added}
use Rattle.krb_match.proofs.looking.match_tickets.Goals as goal

pub credentials-preserved : goal.credentials-preserved
credentials-preserved g c = λ xs keys near.
    let asked = c.args.names.now in
    let wanted = is_some c.args.near.now in
    let all = looked_at asked xs (placed_credentials c.args.cache.now.state) in
    let m = c.credentials.matched in
    let h = c.credentials.invariant xs keys near in
    let so_far = subst (λ (cs : List PlacedCredential). AreMatched wanted xs (looked_at asked xs cs) all m.tickets.items m.near) c.in-Some.ensures.steps h.1 in
    (c.consider.ensures.kept asked wanted xs h.0, c.in_ok-consider.ensures.matched asked wanted xs c.next.new.self all h.0 so_far)

pub returns : goal.returns
returns g c = λ xs keys near.
    let asked = c.args.names.now in
    let wanted = is_some c.args.near.now in
    let all = looked_at asked xs (placed_credentials c.args.cache.now.state) in
    let m = c.credentials.matched in
    all_added wanted xs all m.tickets.items m.near (subst (λ (cs : List PlacedCredential). AreMatched wanted xs (looked_at asked xs cs) all m.tickets.items m.near) c.in-None.ensures.steps.0 (c.credentials.invariant xs keys near).1)
