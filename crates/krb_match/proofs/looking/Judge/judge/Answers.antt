use Rattle.krb_match.proofs.Cited.{◌≡◌, arith, subst, judged, judged_among, named, ticket_of, nat_tests, IfOk}
use Rattle.krb_match.specs.declared.judgement.Judgement.{Judgement}
use Rattle.krb_match.proofs.looking.Judge.judge.Goals as goal

pub returns-in-Some-clause-said : goal.returns-in-Some-clause-said
returns-in-Some-clause-said g c = λ asked wanted xs p old key read.
    let is : judged_among c.in-Some.encryption (named p xs) ≡ judged xs (ticket_of c.args.ticket.now p) = grind (arith, nat_tests, read, c.in-Some.is) in
    subst (λ (v : Judgement). IfOk c.judge_read.result (λ j. j ≡ v)) is (c.judge_read.ensures.said asked wanted xs p old key)
