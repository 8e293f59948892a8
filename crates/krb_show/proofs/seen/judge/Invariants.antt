use Rattle.krb_show.proofs.Cited.{placed_credentials, SeesSoFar}
use Rattle.krb_show.proofs.seen.judge.Given as goal

-- what was seen of the credentials so far
abbrev pub invariant-credentials : goal.invariant-credentials
invariant-credentials g l = SeesSoFar l.now l.realm l.place-iterator (placed_credentials l.cache.state) l.seen
