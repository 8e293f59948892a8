use Rattle.krb_ccache.proofs.Cited.{◌≡◌, length, live_from}
use Rattle.krb_ccache.proofs.credentials.AllCredentials.next_live.Given as goal

-- no live credential was passed
abbrev pub invariant-loop-at : goal.invariant-loop-at
invariant-loop-at l = live_from l.self ≡ live_from l.fn.self

abbrev pub decreases-loop-at : goal.decreases-loop-at
decreases-loop-at l = length l.self.cells
