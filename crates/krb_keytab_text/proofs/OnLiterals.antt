-- What a proof unfolds to compute the definitions of this crate, and of those that it uses, on literals.
use Rattle.std.specs.Prelude.{⊤}
use Rattle.krb_keytab.proofs.OnLiterals.{krb_keytab_on_literals}
use Rattle.krb_text.proofs.OnLiterals.{krb_text_on_literals}

unfoldable pub krb_keytab_text_on_literals : ⊤
unfolding krb_keytab_on_literals krb_text_on_literals
krb_keytab_text_on_literals = tt
