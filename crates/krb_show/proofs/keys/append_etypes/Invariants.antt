use Rattle.krb_show.proofs.Cited.{◌≡◌, ◌++◌, drop, true, spaced}
use Rattle.krb_show.proofs.keys.append_etypes.Given as goal

-- the enctypes so far, and those to come, are all
abbrev pub invariant-etypes : goal.invariant-etypes
invariant-etypes g l = l.out.items ++ spaced l.is_first (drop l.etype-index l.etypes) ≡ l.fn.out.items ++ spaced true l.etypes
