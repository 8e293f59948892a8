-- What is known of a store behind a handle, and the status of a refusal.
use Rattle.krb_walk.specs.declared.refusal.Code.{Code}
use Rattle.krb_walk.specs.declared.refusal.Refusal.{Refusal}
use Rattle.krb_walk.specs.declared.refusal.Refusal.TheVariants.{Code as ByCode, NoMemory}
use Rattle.krb_walk.specs.Rules.{PutGives, CutGives}
use Rattle.krb_walk.specs.Changes.{Puts, Cuts}
use Rattle.krb_walk.specs.Events.{stop_cursor}
use Rattle.krb_walk.specs.declared.stop.Stop.TheVariants.{Live}
use Rattle.krb_c.proofs.Cited.{Store, IsPlace, IsSound, is_place, end_of, stop_at, AreKnown, AllByRecursion, Adds, refusal_status, ◌≡◌, ℕ, Option, Some, None, Result, Ok, Err, sym, ap, subst, ◌∙◌, inl, inr, refl, list_all, IfSome, IfOk, OnOk, List, [], ◌∷◌, true}
use Rattle.krb_walk.proofs.Cells.{stops_live}
use Rattle.krb_walk.proofs.Lists.{some_is}
use Rattle.krb_walk.proofs.Places.{Extends, puts-extends, cuts-extends, place_kept, stop_place}
use Rattle.krb_wire.proofs.NamesCompared.{and_both}

-- the cell that a walk stops at, and the place after it
pub known_after : (s : Store) (c p n : ℕ) → IsSound s → Live p n ≡ stop_at s c → AreKnown s (Some p) (Some n)
known_after s c p n sound is =
    let live = stops_live s c p n sound is in
    record {
      is_live = some_is _ live.bytes live.is_there;
      place = ap (λ r. is_place s (stop_cursor (end_of s) r)) (sym live.next) ∙ stop_place s c;
    }

-- a place stays one if the cells stay where they are
kept_by : (s new : Store) (next : Option ℕ) → Extends s new → IfSome next (IsPlace s) → AreKnown new None next
kept_by s new None more h = record { is_live = tt; place = tt }
kept_by s new (Some p) more h = record { is_live = tt; place = place_kept s new p more h }

module _ {S : Type 0} (seen : S → Store) where
  kept_same : (k new : S) (next : Option ℕ) → new ≡ k → IfSome next (IsPlace (seen k)) → AreKnown (seen new) None next
  kept_same k new next same h = subst (λ (x : S). AreKnown (seen x) None next) (sym same) (record { is_live = tt; place = h })

  pub kept_by_put : (k new : S) (given : Result (ℕ × S) Code) (r : Result ℕ Refusal) (next : Option ℕ) → PutGives given k r new → IfOk r (Puts (seen k) (seen new)) → IfSome next (IsPlace (seen k)) → AreKnown (seen new) None next
  kept_by_put k new given (Ok p) next gives puts h = kept_by (seen k) (seen new) next (puts-extends (seen k) (seen new) p puts) h
  kept_by_put k new given (Err (ByCode code)) next gives puts h = kept_same k new next gives.1 h
  kept_by_put k new given (Err NoMemory) next gives puts h = kept_same k new next gives h

  pub kept_by_cut : (k new : S) (given : Result S Code) (r : Result (Unit {0}) Code) (p : ℕ) (next : Option ℕ) → CutGives given k r new → OnOk r (Cuts (seen k) (seen new) p) → IfSome next (IsPlace (seen k)) → AreKnown (seen new) None next
  kept_by_cut k new given (Ok done) p next gives cuts h = kept_by (seen k) (seen new) next (cuts-extends (seen k) (seen new) p cuts) h
  kept_by_cut k new given (Err code) p next gives cuts h = kept_same k new next gives.1 h

-- cursors that were tested are places
pub places_all : (s : Store) (cursors : List ℕ) → list_all (is_place s) cursors ≡ true → AllByRecursion (IsPlace s) cursors
places_all s [] e = tt
places_all s (p ∷ ps) e =
    let both = and_both (is_place s p) (list_all (is_place s) ps) e in
    (both.0, places_all s ps both.1)

-- a refusal has its status, and changes neither the place nor the store
pub refused : {S : Type 0} → (given : Result (ℕ × S) Code) (old new : S) (why : Refusal) (status place : ℕ)
    → PutGives given old (Err why) new → status ≡ refusal_status why → Adds given old status place place new
refused given old new (ByCode code) status place gives is = inl (rw gives.0 (is, refl, gives.1))
refused given old new NoMemory status place gives is = inr (is, refl, gives)
