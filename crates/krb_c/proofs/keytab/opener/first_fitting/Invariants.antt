use Rattle.krb_match.proofs.Cited.{◌≡◌, fits, find, placed_entries}
use Rattle.krb_wire.specs.Reading.{principal_parts}
use Rattle.krb_c.specs.Opener.{keyed}
use Rattle.krb_c.proofs.keytab.opener.first_fitting.Given as goal

-- the first of those to come is the first of all
abbrev pub invariant-entries : goal.invariant-entries
invariant-entries l =
    find (λ x. fits l.asked x.1.version) (keyed (principal_parts l.name) l.etype l.place-iterator) ≡ find (λ x. fits l.asked x.1.version) (keyed (principal_parts l.name) l.etype (placed_entries l.keytab.state))
