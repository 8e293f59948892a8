-- The latest end of tickets.
use Rattle.krb_readers.proofs.Cited.{◌≡◌, ◌∙◌, ap, ℕ, List, [], ◌∷◌, false, refl, arith, PlacedCredential, placed_credentials, Option, None, nat_lt, filter, list_any, has_ticket, is_valid_after, last_end, later, latest, CacheState}
use Rattle.std.specs.Option.{option_map_or, option_or}
use Rattle.krb_audit.specs.GoingOn.{first_of, is_tgt, is_ticket, looked_at}

-- the latest end of the tickets that come first
of_first : (tgts tickets : List PlacedCredential) → option_or (latest tgts) (latest tickets) ≡ latest (first_of tgts tickets)
of_first [] tickets = refl
of_first (x ∷ xs) tickets = grind arith

-- once all tickets are seen
pub of_seen : (k : CacheState) (tgt ticket : Option ℕ)
    → later tgt None ≡ latest (filter (is_tgt k.principal.realm) (placed_credentials k))
    → later ticket None ≡ latest (filter is_ticket (placed_credentials k)) → option_or tgt ticket ≡ last_end k
of_seen k tgt ticket is_tgt_end is_end =
    grind (arith, is_tgt_end, is_end, of_first (filter (is_tgt k.principal.realm) (placed_credentials k)) (filter is_ticket (placed_credentials k)))

-- the latest end is after a second if one is
after_latest : (time : ℕ) (xs : List PlacedCredential) → option_map_or (λ t. nat_lt time t) (latest xs) false ≡ list_any (is_valid_after time) xs
after_latest time [] = refl
after_latest time (x ∷ xs) = grind (arith, after_latest time xs)

-- a cache has a ticket that is valid after a second if its last end is after it
pub of_last : (time : ℕ) (last : Option ℕ) (k : CacheState) → last ≡ last_end k → option_map_or (λ t. nat_lt time t) last false ≡ has_ticket time k
of_last time last k is = ap (λ (o : Option ℕ). option_map_or (λ t. nat_lt time t) o false) is ∙ after_latest time (looked_at k)
