use Rattle.krb_names.proofs.Cited.{◌≡◌}
use Rattle.std.specs.Cmp.Lexicographic.{pointwise}
use Rattle.krb_names.specs.Patterns.{fits_bytes}
use Rattle.krb_names.proofs.patterns.fit_components.Given as goal

-- the components that are left fit iff all do
abbrev pub invariant-loop-pattern : goal.invariant-loop-pattern
invariant-loop-pattern g l = pointwise fits_bytes l.pattern-iterator l.components ≡ pointwise fits_bytes l.fn.patterns l.fn.components
