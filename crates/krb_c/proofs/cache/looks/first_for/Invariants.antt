use Rattle.krb_c.proofs.Cited.{◌≡◌, find, principal_parts}
use Rattle.krb_c.specs.CacheLooks.{is_ticket_for, ticket_for}
use Rattle.krb_c.proofs.cache.looks.first_for.Given as goal

-- the first ticket among the rest is the first among all
abbrev pub invariant-loop-place : goal.invariant-loop-place
invariant-loop-place l = find (λ x. is_ticket_for (principal_parts l.server) x.1) l.place-iterator ≡ ticket_for l.cache.state (principal_parts l.server)
