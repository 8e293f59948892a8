use Rattle.std.proofs.Common.{length, arith}
use Rattle.std.proofs.lemmas.List.{take-append-drop}
use Rattle.std.specs.Cmp.Lexicographic.{same_text}
use Rattle.krb_disk.proofs.read.without_front.Goals as goal

-- the prefix and the rest are the whole, by `take-append-drop`
pub returns-then-eq : goal.returns-then-eq
returns-then-eq c =
    let parts = c.in_ok-begin.ensures.cases in
    let same = same_text c.in_ok-begin.begin.now c.args.front.now c.if-eq.ensures in
    let whole = take-append-drop (length c.args.front.now) c.args.bytes.now in
    grind arith
