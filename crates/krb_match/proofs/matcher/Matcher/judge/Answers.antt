use Rattle.krb_match.proofs.Cited.{◌∙◌, ap, refl, Bool, placed_entries, KeytabState, matched_tickets, near_ticket}
use Rattle.krb_match.proofs.matcher.Matcher.judge.Goals as goal

pub returns-clause-tickets : goal.returns-clause-tickets
returns-clause-tickets g c =
    (c.in_ok-match_tickets.ensures (placed_entries c.self.inside.classes) refl c.self.invariant).0
    ∙ ap (λ (v : KeytabState × Bool). matched_tickets c.args.names.now v.0 c.args.cache.now.state) c.self.view_is

pub returns-clause-near : goal.returns-clause-near
returns-clause-near g c =
    (c.in_ok-match_tickets.ensures (placed_entries c.self.inside.classes) refl c.self.invariant).1
    ∙ ap (λ (v : KeytabState × Bool). near_ticket v.1 c.args.names.now v.0 c.args.cache.now.state) c.self.view_is
