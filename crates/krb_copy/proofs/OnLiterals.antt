-- What a proof unfolds to compute the definitions of this crate, and of those that it uses, on literals.
use Rattle.krb_copy.proofs.Cited.{⊤, copy_run}
use Rattle.krb_keytab_text.proofs.OnLiterals.{krb_keytab_text_on_literals}

unfoldable pub krb_copy_on_literals : ⊤
unfolding krb_keytab_text_on_literals copy_run
krb_copy_on_literals = tt
