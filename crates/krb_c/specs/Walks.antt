-- Steps of walks, over keytabs and caches alike.
use Rattle.std.specs.Prelude.{◌≡◌, ℕ, Bool, true, false, Option, IsSome, IfSome, IsSomeAnd, List, Result, Err, if◌then◌else◌}
use Rattle.std.specs.List.{list_all}
use Rattle.krb_walk.specs.declared.stop.Stop.{Stop}
use Rattle.krb_walk.specs.declared.stop.Stop.TheVariants.{Live, End, Fault}
use Rattle.krb_walk.specs.Store.{Store, IsPlace, is_place, live_bytes, stop_at}
use Rattle.krb_walk.specs.declared.refusal.Code.{Code}
use Rattle.krb_walk.specs.declared.refusal.Code.TheVariants.{NotAPlace}

-- what is remembered of a store: the place of a live cell, and a place
pub record AreKnown (s : Store) (given next : Option ℕ) : Type 0 where
  pub is_live : IfSome given (λ p. IsSome (live_bytes s p))
  pub place : IfSome next (IsPlace s)

module _ {Record Shown : Type 0} (at_place : ℕ → Option Record) (Shows : Shown → ℕ → Record → Type 0) where
  -- a step of a walk stopped there: 0 with the record and the cursor after it, 2 at the end, 31 at a fault
  abbrev pub StepsTo : Stop → ℕ → ℕ → ℕ → Shown → Shown → Type 0
  StepsTo (Live place next) status cursor new_cursor seen new_seen =
      (status ≡ 0) × (new_cursor ≡ next) × IsSomeAnd (at_place place) (Shows new_seen place)
  StepsTo (End next) status cursor new_cursor seen new_seen = (status ≡ 2) × (new_cursor ≡ cursor) × (new_seen ≡ seen)
  StepsTo (Fault fault) status cursor new_cursor seen new_seen = (status ≡ 31) × (new_cursor ≡ cursor) × (new_seen ≡ seen)

  -- a step of a walk: 34 if the cursor is not a place
  abbrev pub StepsFrom : Bool → Stop → ℕ → ℕ → ℕ → Shown → Shown → Type 0
  StepsFrom true stop status cursor new_cursor seen new_seen = StepsTo stop status cursor new_cursor seen new_seen
  StepsFrom false stop status cursor new_cursor seen new_seen = (status ≡ 34) × (new_cursor ≡ cursor) × (new_seen ≡ seen)

  -- a step of a walk over a store from a cursor
  abbrev pub StepsOver : Store → ℕ → ℕ → ℕ → Shown → Shown → Type 0
  StepsOver s status cursor new_cursor seen new_seen = StepsFrom (is_place s cursor) (stop_at s cursor) status cursor new_cursor seen new_seen

-- ---- the cursors of walks

-- the result of a rewrite with cursors: refused first if one of them is not a place
abbrev pub with_cursors : {S : Type 0} → Store → List ℕ → Result S Code → Result S Code
with_cursors s cursors given = if list_all (is_place s) cursors then given else Err NotAPlace
