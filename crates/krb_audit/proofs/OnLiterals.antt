-- What a proof unfolds to compute the definitions of this crate, and of those that it uses, on literals.
use Rattle.std.specs.Prelude.{⊤}
use Rattle.krb_ccache.proofs.OnLiterals.{krb_ccache_on_literals}
use Rattle.krb_keytab_text.proofs.OnLiterals.{krb_keytab_text_on_literals}
use Rattle.krb_audit.specs.Findings.{weak_among}

unfoldable pub krb_audit_on_literals : ⊤
unfolding krb_ccache_on_literals krb_keytab_text_on_literals weak_among
krb_audit_on_literals = tt
