use Rattle.krb_driver.proofs.Cited.{◌≡◌, map, take, content_of}
use Rattle.krb_driver.specs.Reported.{failures as reported}
use Rattle.krb_driver.proofs.reporting.reported.failures.Given as goal

abbrev pub invariant-replies : goal.invariant-replies
invariant-replies g l = l.failures ≡ reported (map content_of (take l.reply-index l.replies))
