-- What a proof unfolds to compute the definitions of this crate, and of those that it uses, on literals.
use Rattle.krb_keytab.proofs.Cited.{⊤, front_at, entry_at, next, contents}
use Rattle.krb_cells.proofs.OnLiterals.{krb_cells_on_literals}

unfoldable pub krb_keytab_on_literals : ⊤
unfolding krb_cells_on_literals front_at entry_at next contents
krb_keytab_on_literals = tt
