use Rattle.krb_ktutil.proofs.Cited.{◌≡◌, length, words, has_password}
use Rattle.krb_ktutil.proofs.ktutil.options.has_password.Given as goal

abbrev pub invariant-words : goal.invariant-words
invariant-words l = has_password (words l.rest) ≡ has_password (words l.fn.rest)

abbrev pub decreases-words : goal.decreases-words
decreases-words l = length l.rest
