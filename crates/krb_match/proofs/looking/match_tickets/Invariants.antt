use Rattle.krb_match.proofs.Cited.{List, is_some, PlacedEntry, placed_entries, ◌≡◌, placed_credentials, AreMatched, IsJudge, IsNear, looked_at}
use Rattle.krb_match.proofs.looking.match_tickets.Given as goal

-- the credentials so far were considered
abbrev pub invariant-credentials : goal.invariant-credentials
invariant-credentials g l = (xs : List PlacedEntry) → placed_entries l.classes ≡ xs → IsNear xs l.near → IsJudge l.names (is_some l.near) xs l.judge × AreMatched (is_some l.near) xs (looked_at l.names xs l.place-iterator) (looked_at l.names xs (placed_credentials l.cache.state)) l.matched.tickets.items l.matched.near
