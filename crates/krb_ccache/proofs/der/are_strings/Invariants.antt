use Rattle.krb_ccache.proofs.Cited.{◌≡◌, ◌-◌, is_some}
use Rattle.krb_ccache.specs.Der.{strings_in, strings_within}
use Rattle.krb_ccache.proofs.der.are_strings.Given as goal

-- the rest are strings iff all are
abbrev pub invariant-strings : goal.invariant-strings
invariant-strings l = is_some (strings_within (l.end - l.counter) l.rest) ≡ is_some (strings_in l.bytes)
