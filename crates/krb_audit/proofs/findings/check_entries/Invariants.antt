use Rattle.krb_audit.proofs.ForAnswers.{IsCheckedUpTo}
use Rattle.krb_audit.proofs.findings.check_entries.Given as goal

-- the entries so far are checked, and the others are still to come
abbrev pub invariant-entries : goal.invariant-entries
invariant-entries g l = IsCheckedUpTo l.asked l.keytab.state l.place-iterator l.before l.entries.items
