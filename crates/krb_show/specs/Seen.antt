-- What a pass over the credentials of a cache has seen.
use Rattle.std.specs.Prelude.{◌≡◌, ℕ, ◌+◌, List, length, filter, ◌||◌}
use Rattle.std.specs.List.{list_any}
use Rattle.krb_ccache.specs.Store.{PlacedCredential}
use Rattle.krb_audit.specs.GoingOn.{is_tgt, is_ticket}
use Rattle.krb_show.specs.CacheView.{is_weak_ticket, lasts, tickets}
use Rattle.krb_show.specs.declared.seen.SeenTickets.{SeenTickets}

-- what was seen so far, with what the rest shows, is what all show
pub record SeesSoFar (now : ℕ) (realm : List ℕ) (rest all : List PlacedCredential) (seen : SeenTickets) : Type 0 where
  pub count : seen.count + length (tickets rest) ≡ length (tickets all)
  pub weak : seen.weak + length (filter is_weak_ticket (tickets rest)) ≡ length (filter is_weak_ticket (tickets all))
  pub tgts : seen.tgts + length (filter (is_tgt realm) rest) ≡ length (filter (is_tgt realm) all)
  pub tgt_lasts : (seen.tgt_lasts || list_any (lasts now) (filter (is_tgt realm) rest)) ≡ list_any (lasts now) (filter (is_tgt realm) all)
  pub ticket_lasts : (seen.ticket_lasts || list_any (lasts now) (filter is_ticket rest)) ≡ list_any (lasts now) (filter is_ticket all)
