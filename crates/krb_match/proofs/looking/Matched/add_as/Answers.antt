use Rattle.krb_match.proofs.ForAnswers.{◌≡◌, ◌∙◌, ap, ap₂, subst, Bool, true, cond, [], ◌∷◌, ◌++◌, None, Parts, option_or, PlacedCredential, AreMatched, IsSaid, MatchedParts, is_looked_at, looked_at, matched, near_by, added}
use Rattle.krb_match.proofs.looking.Matched.add_as.Goals as goal

pub returns-in_ok-push-in-Some-clause-matched : goal.returns-in_ok-push-in-Some-clause-matched
returns-in_ok-push-in-Some-clause-matched g c = λ asked wanted xs rest all old name read so_far.
    let x : PlacedCredential = (c.args.place, c.args.ticket.now) in
    let m = c.args.self.now in
    let others = looked_at asked xs rest in
    let found : (is_looked_at asked xs x.1 ≡ true) × (c.in-Some.ticket ≡ matched xs x) = subst (IsSaid asked xs x) c.in-Some.is (c.in_ok-ticket.ensures.said asked wanted xs old name read) in
    added wanted xs x others all m.tickets.items c.push.new.self.items m.near c.in_ok-self-in-Some.field-0
    (subst (λ (b : Bool). AreMatched wanted xs (cond b (x ∷ others) others) all m.tickets.items m.near) found.0 so_far)
    (c.in_ok-push-in-Some.ensures.items ∙ ap (λ (t : MatchedParts). m.tickets.items ++ t ∷ []) found.1)
    (c.in_ok-self-in-Some.ensures asked wanted xs (c.looked_at.ensures.kept asked wanted xs old) ∙ ap₂ (λ (p : Parts) (t : MatchedParts). option_or m.near (cond wanted (near_by xs p t.judgement) None)) name (c.ticket.view_is ∙ found.1))

pub returns-in-None-clause-matched : goal.returns-in-None-clause-matched
returns-in-None-clause-matched g c = λ asked wanted xs rest all old name read so_far.
    let m = c.args.self.now in
    let others = looked_at asked xs rest in
    subst (λ (b : Bool). AreMatched wanted xs (cond b ((c.args.place, c.args.ticket.now) ∷ others) others) all m.tickets.items m.near) (subst (IsSaid asked xs (c.args.place, c.args.ticket.now)) c.in-None.is (c.in_ok-ticket.ensures.said asked wanted xs old name read)) so_far
