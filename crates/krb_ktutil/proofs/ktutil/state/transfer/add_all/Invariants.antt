use Rattle.krb_ktutil.proofs.Cited.{◌≡◌, Ok, drop, none_added, with_added}
use Rattle.krb_ktutil.proofs.ktutil.state.transfer.add_all.Given as goal

-- adding the entries that are left gives what adding all of them gives
abbrev pub invariant-entries : goal.invariant-entries
invariant-entries g l = with_added (drop l.entry-index l.entries) (Ok (record { keytab = l.keytab.state; places = l.places.items })) ≡ with_added l.entries (Ok (none_added l.fn.keytab.state))
