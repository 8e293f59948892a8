use Rattle.std.proofs.Common.{◌++◌, ℕ, List, take, sym, ap, ◌∙◌, arith}
use Rattle.krb_wire.proofs.QuoteLemmas.{quoted-letter, stored}
use Rattle.krb_wire.proofs.quote.put_quoted.Goals as goal

pub returns-clause-written : goal.returns-clause-written
returns-clause-written c =
    let text = c.args.text.now in
    let letter = quoted-letter c.args.byte (omega arith) c.if-letter-eq46.false in
    stored text c.args.at 92 _ c.requires ∙ ap (λ (t : List ℕ). take c.args.at text ++ t) (sym letter)
