use Rattle.krb_match.proofs.Cited.{◌∙◌, ap, arith, name_key, name_of}
use Rattle.krb_match.proofs.looking.Judge.looked_at.Goals as goal

pub returns-then-not-branch-clause-said : goal.returns-then-not-branch-clause-said
returns-then-not-branch-clause-said g c = λ asked wanted xs old name read.
    let is = c.in_ok-asks_for.ensures.asked asked wanted xs old name (c.deref.ensures.value ∙ c.in_ok-key.ensures) in
    grind (arith, is)

pub returns-in_err-judgement-clause-kept : goal.returns-in_err-judgement-clause-kept
returns-in_err-judgement-clause-kept g c = λ asked wanted xs old. c.judge.ensures.kept asked wanted xs (c.asks_for.ensures.kept asked wanted xs old)

pub returns-clause-kept : goal.returns-clause-kept
returns-clause-kept g c = λ asked wanted xs old. c.judge.ensures.kept asked wanted xs (c.asks_for.ensures.kept asked wanted xs old)

pub returns-clause-said : goal.returns-clause-said
returns-clause-said g c = λ asked wanted xs old name read.
    let key = c.in_ok-key.ensures in
    let is = c.in_ok-asks_for.ensures.asked asked wanted xs old name (c.deref.ensures.value ∙ key) in
    let said = c.in_ok-judgement.ensures.said asked wanted xs (name_of c.args.ticket.now) (c.asks_for.ensures.kept asked wanted xs old) (c.deref-2.ensures.value ∙ key ∙ ap name_key name) read in
    (grind (arith, is), grind (arith, said, key, name, read))
