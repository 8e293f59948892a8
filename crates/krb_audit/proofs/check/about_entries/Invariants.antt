use Rattle.krb_audit.proofs.Cited.{◌≡◌, take, about_entries}
use Rattle.krb_audit.proofs.check.about_entries.Given as goal

-- what is found about the entries so far
abbrev pub invariant-entries : goal.invariant-entries
invariant-entries l = l.findings ≡ about_entries (take l.marks-index l.entries)
