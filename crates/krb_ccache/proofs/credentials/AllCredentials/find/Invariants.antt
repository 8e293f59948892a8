use Rattle.krb_ccache.proofs.Cited.{◌≡◌, live_at}
use Rattle.krb_ccache.proofs.credentials.AllCredentials.find.Given as goal

-- a look-up in the rest gives what a look-up in all gives
abbrev pub invariant-loop-at : goal.invariant-loop-at
invariant-loop-at l = live_at l.at-iterator l.place ≡ live_at l.fn.self l.place
