use Rattle.krb_audit.proofs.Cited.{List, ℕ, ◌++◌, ◌∷◌, [], ◌+◌, ap, sym, append_assoc, ◌∙◌, ◌%◌}
use Rattle.std.proofs.lemmas.Result.{on_ok_weaker}
use Rattle.krb_audit.proofs.Octal.{octal_more}
use Rattle.krb_audit.proofs.mode.+append_octal.Goals as goal

pub returns : goal.returns
returns g t c =
    let digit : List ℕ = (48 + c.args.number % 8) ∷ [] in
    on_ok_weaker c.append_byte.result (λ is. is ∙ ap (λ (s : List ℕ). s ++ digit) c.in_ok-append_octal.ensures ∙ append_assoc c.args.out.now.items _ digit
    ∙ ap (λ (s : List ℕ). c.args.out.now.items ++ s) (sym (octal_more c.args.places c.args.number c.if-places-eq0.false c.if-number-eq0.false))) c.append_byte.ensures.ok
