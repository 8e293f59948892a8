use Rattle.krb_audit.proofs.Cited.{◌≡◌, first_hidden, hidden_from}
use Rattle.krb_audit.proofs.mit.hidden_from.Given as goal

-- they stop before none of the entries so far
abbrev pub invariant-entries : goal.invariant-entries
invariant-entries g l = first_hidden l.place-iterator ≡ hidden_from l.keytab.state
