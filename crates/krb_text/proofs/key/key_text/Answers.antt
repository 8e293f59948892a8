use Rattle.krb_text.proofs.Cited.{arith, err_from_is_err_and, length-encode_with}
use Rattle.krb_text.proofs.key.key_text.Goals as goal

pub returns-in_default : goal.returns-in_default
returns-in_default g c = search (arith, length-encode_with)

pub returns-in_err-resize : goal.returns-in_err-resize
returns-in_err-resize g c = search (arith, err_from_is_err_and, length-encode_with)
