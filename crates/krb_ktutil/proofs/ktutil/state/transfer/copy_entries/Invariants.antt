use Rattle.krb_ktutil.proofs.ForAnswers.{◌≡◌, ◌++◌, entries, entries_of}
use Rattle.krb_ktutil.proofs.ktutil.state.transfer.copy_entries.Given as goal

-- the copies so far, and the entries that are still to come, are those of the keytab
abbrev pub invariant-entries : goal.invariant-entries
invariant-entries g l = l.copies.items ++ entries_of l.entry-iterator ≡ entries l.keytab.state
