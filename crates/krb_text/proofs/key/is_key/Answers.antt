use Rattle.krb_text.proofs.Cited.{◌∙◌, sym, refl, decode_of}
use Rattle.krb_text.proofs.Digits.{key_of_size}
use Rattle.krb_text.proofs.key.is_key.Goals as goal

pub returns-then-is_hexadecimal : goal.returns-then-is_hexadecimal
returns-then-is_hexadecimal c = c.is_key_size.ensures ∙ key_of_size c.args.etype c.args.digits.now (decode_of c.args.digits.now) refl (sym c.is_hexadecimal.ensures ∙ c.if-is_hexadecimal.true)
