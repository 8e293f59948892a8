use Rattle.krb_match.proofs.Cited.{◌≡◌, placed_entries, named}
use Rattle.krb_wire.specs.Reading.{principal_parts}
use Rattle.krb_c.specs.Opener.{has_fitting}
use Rattle.krb_c.proofs.keytab.opener.has_fitting.Given as goal

-- one of those to come fits iff one of all does
abbrev pub invariant-entries : goal.invariant-entries
invariant-entries l = has_fitting l.asked (named (principal_parts l.name) l._place-iterator) ≡ has_fitting l.asked (named (principal_parts l.name) (placed_entries l.keytab.state))
