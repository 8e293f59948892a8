use Rattle.krb_names.proofs.Cited.{◌≡◌, map}
use Rattle.std.proofs.Common.{drop}
use Rattle.krb_wire.specs.Reading.{principal_parts}
use Rattle.krb_names.proofs.AskedLemmas.{fits_one}
use Rattle.krb_names.proofs.filter.fits_one.Given as goal

-- the name fits none of the patterns so far
abbrev pub invariant-loop-pattern : goal.invariant-loop-pattern
invariant-loop-pattern g l = fits_one l.only_plain_realms (g.N.Name.parts l.name) (map principal_parts (drop l.pattern-index l.patterns)) ≡ fits_one l.only_plain_realms (g.N.Name.parts l.name) (map principal_parts l.patterns)
