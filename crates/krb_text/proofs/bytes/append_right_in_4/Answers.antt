use Rattle.krb_text.proofs.Cited.{List, ℕ, subst, arith, Appended, length-decimal-le}
use Rattle.std.specs.Prelude.{decimal}
use Rattle.krb_text.proofs.Aligned.{right_aligned}
use Rattle.krb_text.proofs.bytes.append_right_in_4.Goals as goal

pub write_digits-start-requires : goal.write_digits-start-requires
write_digits-start-requires g c = search (arith, length-decimal-le)

pub returns-then-start-lt16 : goal.returns-then-start-lt16
returns-then-start-lt16 g c = search (arith, right_aligned)

pub returns : goal.returns
returns g c =
    let content_of = c.write_digits-start.ensures in
    let text = right_aligned _ (decimal c.args.number) c.write_digits-start.result 16 content_of.start content_of.written content_of.before (omega arith) in
    let P : List ℕ → Type 0 = λ t. Appended t c.args.out.now c.append-2.new.out c.append-2.result in
    subst P text c.append-2.ensures
