use Rattle.krb_ktutil.proofs.Cited.{◌≡◌, length, words, options_in, no_options}
use Rattle.krb_ktutil.proofs.ktutil.options.options.Given as goal

abbrev pub invariant-options : goal.invariant-options
invariant-options l = options_in l.options (words l.rest) ≡ options_in no_options (words l.fn.rest)

abbrev pub decreases-options : goal.decreases-options
decreases-options l = length l.rest
