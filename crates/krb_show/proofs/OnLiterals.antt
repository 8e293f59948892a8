-- What a proof unfolds to compute the definitions of this crate, and of those that it uses, on literals.
use Rattle.std.specs.Prelude.{⊤}
use Rattle.krb_audit.proofs.OnLiterals.{krb_audit_on_literals}
use Rattle.krb_show.specs.Ago.{rest, span}
use Rattle.krb_show.specs.EtypeNames.{etype_cell}
use Rattle.krb_show.specs.CacheView.{cache_heading, end_cell, service}
use Rattle.krb_show.specs.KeytabView.{distinct, keys_cell, keytab_heading}

unfoldable pub krb_show_on_literals : ⊤
unfolding krb_audit_on_literals span rest etype_cell cache_heading end_cell service distinct keys_cell keytab_heading
krb_show_on_literals = tt
