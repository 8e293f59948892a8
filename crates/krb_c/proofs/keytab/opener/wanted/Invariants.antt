use Rattle.krb_match.proofs.Cited.{◌≡◌, None, placed_entries, newest_from}
use Rattle.krb_wire.specs.Reading.{principal_parts}
use Rattle.krb_c.specs.Opener.{keyed}
use Rattle.krb_c.proofs.keytab.opener.wanted.Given as goal

-- the newest of all is that of the entries to come and of the newest so far
abbrev pub invariant-entries : goal.invariant-entries
invariant-entries l =
    newest_from l.newest (keyed (principal_parts l.name) l.etype l._place-iterator) ≡ newest_from None (keyed (principal_parts l.name) l.etype (placed_entries l.keytab.state))
