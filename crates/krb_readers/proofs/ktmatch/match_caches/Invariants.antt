use Rattle.krb_readers.proofs.Cited.{drop, first_round, first_state, plan_of}
use Rattle.krb_readers.proofs.Matched.{Leads}
use Rattle.krb_readers.proofs.ktmatch.match_caches.Given as goal

-- the caches so far were matched, and others may come
abbrev pub invariant-names : goal.invariant-names
invariant-names g l = Leads g.F.Files l.command.matcher.now.0 (plan_of l.command) l.names (drop l.file-index l.names) (first_round first_state l.fn.world)
    (record { world = l.world; state = l.ran.state; status = l.ran.status })
