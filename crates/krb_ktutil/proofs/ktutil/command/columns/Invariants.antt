use Rattle.krb_ktutil.proofs.Cited.{◌≡◌, length, words, plain_columns, columns_in}
use Rattle.krb_ktutil.proofs.ktutil.command.columns.Given as goal

abbrev pub invariant-options : goal.invariant-options
invariant-options l = columns_in l.columns (words l.rest) ≡ columns_in plain_columns (words l.fn.rest)

abbrev pub decreases-options : goal.decreases-options
decreases-options l = length l.rest
