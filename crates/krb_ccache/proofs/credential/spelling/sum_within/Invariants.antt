use Rattle.krb_ccache.proofs.Cited.{◌≡◌, ◌+◌, take, sum}
use Rattle.krb_ccache.proofs.credential.spelling.sum_within.Given as goal

-- the room left by the lengths so far
abbrev pub invariant-loop-len : goal.invariant-loop-len
invariant-loop-len l = l.room + sum (take l.len-index l.lens) ≡ l.most
