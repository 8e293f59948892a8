use Rattle.krb_show.proofs.Cited.{List, subst, PlacedCredential, placed_credentials, SeesSoFar}
use Rattle.krb_show.proofs.seen.judge.Goals as goal

-- the next credential was seen too
pub credentials-preserved : goal.credentials-preserved
credentials-preserved g c =
    let all = placed_credentials c.args.cache.now.state in
    let so_far = λ (xs : List PlacedCredential). SeesSoFar c.args.now c.realm-realm.result.now xs all c.credentials.seen in
    c.in_ok-see.ensures c.next.new.self all (subst so_far c.in-Some.ensures.steps c.credentials.invariant)
