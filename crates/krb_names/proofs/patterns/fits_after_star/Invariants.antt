use Rattle.krb_names.proofs.Cited.{◌≡◌, length}
use Rattle.krb_names.specs.Patterns.{fits_bytes, of_some_rest}
use Rattle.krb_names.proofs.patterns.fits_after_star.Given as goal

-- what is left fits iff all does
abbrev pub invariant-loop-part : goal.invariant-loop-part
invariant-loop-part l = of_some_rest (fits_bytes l.pattern) l.bytes ≡ of_some_rest (fits_bytes l.fn.pattern) l.fn.bytes

abbrev pub decreases-loop-part : goal.decreases-loop-part
decreases-loop-part l = length l.pattern
