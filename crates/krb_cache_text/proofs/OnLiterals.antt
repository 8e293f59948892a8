-- What a proof unfolds to compute the definitions of this crate, and of those that it uses, on literals.
use Rattle.std.specs.Prelude.{⊤}
use Rattle.krb_ccache.proofs.OnLiterals.{krb_ccache_on_literals}
use Rattle.krb_keytab_text.proofs.OnLiterals.{krb_keytab_text_on_literals}
use Rattle.krb_cache_text.specs.Listing.{ticket_line, renew_line, flags_line, etype_line, config_line}

unfoldable pub krb_cache_text_on_literals : ⊤
unfolding krb_ccache_on_literals krb_keytab_text_on_literals ticket_line renew_line flags_line etype_line config_line
krb_cache_text_on_literals = tt
