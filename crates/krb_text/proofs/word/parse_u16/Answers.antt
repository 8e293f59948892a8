use Rattle.std.proofs.Common.{arith}
use Rattle.krb_text.proofs.Numerals.{number_in-parsed}
use Rattle.krb_text.proofs.word.parse_u16.Goals as goal

pub returns : goal.returns
returns c = search (arith, number_in-parsed)
