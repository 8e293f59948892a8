use Rattle.krb_text.proofs.Cited.{err_from_is_err_and, appended_part, left_fails}
use Rattle.krb_text.proofs.Letters.{letters_next}
use Rattle.krb_text.proofs.flags.append_letters.Goals as goal

pub returns-in_err-append_byte : goal.returns-in_err-append_byte
returns-in_err-append_byte g c =
    let p = err_from_is_err_and c.from_residual.result c.from_residual.ensures.1 in
    rw p.1 (left_fails _ _ _ _ _ _ _ _ _ c.flags.invariant (letters_next c.args.flags c.args.table.now c.flags.bit-index c.flags-test.true c.if-flags-bit-ne0.true) (appended_part _ _ _ _ c.in_err-append_byte.ensures))
