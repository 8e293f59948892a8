use Rattle.krb_text.proofs.Cited.{◌∷◌, ℕ, drop, get_or, sym, ap, ◌∙◌, drop-cons, add-one, err_from_is_err_and, left_fails, escaped_text}
use Rattle.krb_text.proofs.escape.append_escaped.Goals as goal

pub returns-in_err-append_escaped_byte : goal.returns-in_err-append_escaped_byte
returns-in_err-append_escaped_byte g c =
    let p = err_from_is_err_and c.from_residual.result c.from_residual.ensures.1 in
    let i = c.bytes.byte-index in
    let bytes = c.args.bytes.now in
    let next = drop-cons bytes i 0 c.bytes-test.true ∙ ap (λ (n : ℕ). get_or bytes i 0 ∷ drop n bytes) (sym (add-one i)) in
    rw p.1 (left_fails _ _ _ _ _ _ _ _ _ c.bytes.invariant (ap escaped_text next) c.in_err-append_escaped_byte.ensures)
