-- Removals one after the other, as a session makes them.
use Rattle.krb_ccache.proofs.Cited.{arith, ◌≡◌, ℕ, List, [], ◌∷◌, map, Result, refl, if◌then◌else◌, Code, CacheState, cut_result, is_refused, without, SettingParts, match_places, then_without, cut_store, cache_rules, put_store}
use Rattle.krb_walk.specs.declared.event.Event.TheVariants.{Cut}
use Rattle.krb_walk.specs.History.{state_after}

pub removals_leave : (k : CacheState) (cursors places : List ℕ) → (state_after cache_rules (record { store = k; cursors = cursors }) (map Cut places)).store ≡ without k places
removals_leave k cursors [] = refl
removals_leave k cursors (p ∷ ps) = removals_leave (cut_store k (cut_result k p)) cursors ps

-- the events of a setting leave what the addition and the removals after it leave
pub setting_leaves : (k : CacheState) (cursors : List ℕ) (s : SettingParts) (given : Result (ℕ × CacheState) Code)
    → (state_after cache_rules (record { store = put_store k given; cursors = cursors }) (if is_refused given then [] else map Cut (match_places k s))).store ≡ put_store k (then_without (match_places k s) given)
setting_leaves k cursors s given = search (arith, removals_leave)
