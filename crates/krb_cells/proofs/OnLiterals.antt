-- What a proof unfolds to compute the definitions of this crate, and of those that it uses, on literals.
use Rattle.std.specs.Prelude.{⊤}
use Rattle.krb_wire.proofs.OnLiterals.{krb_wire_on_literals}
use Rattle.krb_cells.specs.Contents.{first_cells, contents as contents_of}

unfoldable pub krb_cells_on_literals : ⊤
unfolding krb_wire_on_literals first_cells contents_of
krb_cells_on_literals = tt
