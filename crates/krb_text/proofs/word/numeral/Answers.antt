use Rattle.std.proofs.Common.{sym}
use Rattle.krb_text.proofs.Numerals.{numeral_text}
use Rattle.krb_text.proofs.word.numeral.Goals as goal

pub returns : goal.returns
returns c =
    let h = sym c.if-not-is_numeral.ensures in
    rw c.ok.ensures.value (numeral_text c.from_utf8.result c.args.text.now _ h c.from_utf8.ensures.cases)
