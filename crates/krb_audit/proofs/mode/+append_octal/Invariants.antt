use Rattle.krb_audit.proofs.mode.+append_octal.Given as goal

abbrev pub decreases-append_octal : goal.decreases-append_octal
decreases-append_octal g l = l.places
