use Rattle.krb_c.proofs.Cited.{◌≡◌, map, take}
use Rattle.krb_c.specs.Findings.{seen}
use Rattle.krb_c.proofs.keytab.findings.seen.Given as goal

-- the entries so far are seen
abbrev pub invariant-entries : goal.invariant-entries
invariant-entries l = l.list.items ≡ map seen (take l.place-index l.entries)
