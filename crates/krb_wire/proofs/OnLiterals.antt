-- What a proof unfolds to compute the definitions of this crate on literals.
use Rattle.krb_wire.proofs.Cited.{⊤, data16_at, data32_at, components_at, kt_principal_at, cc_principal_at, quote, joined_components}

unfoldable pub krb_wire_on_literals : ⊤
unfolding data16_at data32_at components_at kt_principal_at cc_principal_at quote joined_components
krb_wire_on_literals = tt
