-- What a proof unfolds to compute the definitions of this crate, and of those that it uses, on literals.
use Rattle.std.specs.Prelude.{⊤}
use Rattle.krb_audit.proofs.OnLiterals.{krb_audit_on_literals}
use Rattle.krb_match.specs.Said.{etypes_text}
use Rattle.krb_match.specs.Match.{etypes_from}

unfoldable pub krb_match_on_literals : ⊤
unfolding krb_audit_on_literals etypes_text etypes_from
krb_match_on_literals = tt
