use Rattle.krb_ccache.proofs.Cited.{◌≡◌, ◌++◌, map, filter, is_match, query_of, match_places}
use Rattle.krb_ccache.proofs.ccache.Ccache.setting_places.Given as goal

-- the places so far, and those of the matches still to come
abbrev pub invariant-loop-place : goal.invariant-loop-place
invariant-loop-place g l =
    l.places.items ++ map (λ x. x.0) (filter (λ x. is_match (query_of l.self.state l.setting.key l.setting.principal) x.1) l.place-iterator) ≡ match_places l.self.state l.setting
