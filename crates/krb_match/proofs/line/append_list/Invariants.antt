use Rattle.krb_match.proofs.Cited.{◌≡◌, ◌++◌, drop, true, etype_list}
use Rattle.krb_match.proofs.line.append_list.Given as goal

-- the enctypes so far, and those to come, are all
abbrev pub invariant-etypes : goal.invariant-etypes
invariant-etypes g l = l.out.items ++ etype_list l.is_first (drop l.etype-index l.etypes) ≡ l.fn.out.items ++ etype_list true l.etypes
