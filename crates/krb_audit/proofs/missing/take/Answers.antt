use Rattle.krb_audit.proofs.ForAnswers.{arith}
use Rattle.krb_audit.proofs.missing.take.Goals as goal

pub returns-in_ok-push : goal.returns-in_ok-push
returns-in_ok-push g c = λ names marked are among.
    let was = c.is_marked-was_marked.ensures names marked are in
    (c.mark.ensures names marked are, grind (arith, was, among, c.if-not-was_marked.true, c.in_ok-push.ensures.items))

pub returns-else-not-was_marked : goal.returns-else-not-was_marked
returns-else-not-was_marked g c = λ names marked are among.
    let was = c.is_marked-was_marked.ensures names marked are in
    (c.mark.ensures names marked are, grind (arith, was, among, c.if-not-was_marked.false))
