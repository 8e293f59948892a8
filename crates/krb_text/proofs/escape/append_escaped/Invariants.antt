use Rattle.krb_text.proofs.Cited.{drop, Left, escaped_text}
use Rattle.krb_text.proofs.escape.append_escaped.Given as goal

abbrev pub invariant-bytes : goal.invariant-bytes
invariant-bytes g l = Left (escaped_text l.bytes) (escaped_text (drop l.byte-index l.bytes)) l.fn.out l.out
