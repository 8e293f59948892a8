use Rattle.krb_ccache.proofs.Cited.{◌≡◌, length, is_some, fields_in, AreBytes}
use Rattle.krb_ccache.proofs.open.header.are_fields.Given as goal

-- fields fill the rest iff they fill all
abbrev pub invariant-loop-after : goal.invariant-loop-after
invariant-loop-after l = record { same : is_some (fields_in l.rest) ≡ is_some (fields_in l.bytes); fits : AreBytes l.rest }

abbrev pub decreases-loop-after : goal.decreases-loop-after
decreases-loop-after l = length l.rest
