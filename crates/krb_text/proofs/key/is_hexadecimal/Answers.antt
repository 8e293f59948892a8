use Rattle.std.proofs.Common.{◌∙◌}
use Rattle.krb_text.proofs.Digits.{hexadecimal_even}
use Rattle.krb_text.proofs.key.is_hexadecimal.Goals as goal

pub returns-then-text-eq0 : goal.returns-then-text-eq0
returns-then-text-eq0 c = c.are_hex_digits.ensures ∙ hexadecimal_even c.args.text.now c.if-text-eq0.true
