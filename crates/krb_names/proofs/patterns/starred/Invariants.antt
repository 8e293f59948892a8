use Rattle.krb_names.proofs.Cited.{◌≡◌, ◌++◌}
use Rattle.std.proofs.Common.{drop}
use Rattle.krb_names.specs.Patterns.{single_after, starred, starred_after}
use Rattle.krb_names.proofs.patterns.starred.Given as goal

-- with the stars of the bytes that are left, all have theirs
abbrev pub invariant-text : goal.invariant-text
invariant-text g l = l.stars.items ++ single_after l.after_star (starred_after l.is_quoted (drop l.byte-index l.text)) ≡ starred l.text
