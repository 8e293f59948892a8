use Rattle.krb_ccache.proofs.Cited.{◌≡◌, length, AreBytes}
use Rattle.krb_ccache.proofs.HeaderFields.{offset_among}
use Rattle.krb_ccache.proofs.open.header.first_offset.Given as goal

-- the first offset in the rest is the first one in all
abbrev pub invariant-loop-tag : goal.invariant-loop-tag
invariant-loop-tag l = record { same : offset_among l.rest ≡ offset_among l.fields; fits : AreBytes l.rest }

abbrev pub decreases-loop-tag : goal.decreases-loop-tag
decreases-loop-tag l = length l.rest
