use Rattle.krb_json.proofs.Cited.{arith, common_steps}
use Rattle.krb_json.proofs.EscapedLemmas.{printed_text}
use Rattle.krb_json.proofs.piece.Piece.append_to.Goals as goal

pub returns-clause-text : goal.returns-clause-text
returns-clause-text g c = grind (arith, common_steps, printed_text c.replace-writer.result.tokens c.into_inner-text.ensures.reads_back)
