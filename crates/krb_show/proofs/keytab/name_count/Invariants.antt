use Rattle.krb_show.proofs.Cited.{◌≡◌, ◌+◌, name_count}
use Rattle.krb_show.proofs.keytab.name_count.Given as goal

-- the names so far, and those to come, are all
abbrev pub invariant-lines : goal.invariant-lines
invariant-lines g l = l.count + name_count l.key-iterator ≡ name_count l.lines.entries
