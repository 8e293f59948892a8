-- What a proof unfolds to compute the definitions of this crate, and of those that it uses, on literals.
use Rattle.std.specs.Prelude.{⊤}
use Rattle.std.specs.Fmt.{digits}
use Rattle.std.specs.Str.{chars, is_utf8}
use Rattle.hex.proofs.OnLiterals.{hex_on_literals}
use Rattle.krb_text.specs.Etype.{etype_table, etype_in}
use Rattle.krb_text.specs.Numbers.{seconds_in}

unfoldable pub krb_text_on_literals : ⊤
unfolding digits chars is_utf8 hex_on_literals etype_table etype_in seconds_in
krb_text_on_literals = tt
