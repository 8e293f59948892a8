-- Stores with a fault: they refuse all changes, and a walk is given the records before the fault, then the fault.
use Rattle.std.specs.Prelude.{◌≡◌, ℕ, List, ◌∷◌, ◌++◌, length, map, filter, take, replicate, Some}
use Rattle.std.specs.List.{AllByRecursion}
use Rattle.krb_walk.specs.declared.event.Event.{Event}
use Rattle.krb_walk.specs.declared.event.Event.TheVariants.{Put, Cut, Rewrite}
use Rattle.krb_walk.specs.declared.fault.FaultKind.{FaultKind}
use Rattle.krb_walk.specs.Store.{Store, Record, end_of}
use Rattle.krb_walk.specs.Stops.{records_from}
use Rattle.krb_walk.specs.ReplyContent.{ReplyContent, Gave, Ended, Faulted, Refused}
use Rattle.krb_walk.specs.Rules.{Rules}
use Rattle.krb_walk.specs.Events.{SessionState}
use Rattle.krb_walk.specs.History.{history, state_after}
use Rattle.krb_walk.specs.Track.{WalkEvent, Track}

-- the reply to an addition, a removal or a rewrite is a refusal; any other event may have any reply
abbrev pub RefusesChange : {I : Type 0} → Event I → ReplyContent → Type 0
RefusesChange (Put item) (Refused code) = Unit {0}
RefusesChange (Put item) other = ⊥
RefusesChange (Cut p) (Refused code) = Unit {0}
RefusesChange (Cut p) other = ⊥
RefusesChange Rewrite (Refused code) = Unit {0}
RefusesChange Rewrite other = ⊥
RefusesChange e other = Unit {0}

-- all additions, removals and rewrites are refused, and the store is unchanged
pub record RefusesChanges {S I : Type 0} (r : Rules S I) (s : SessionState S) (events : List (Event I)) : Type 0 where
  pub refused : AllByRecursion (λ m. RefusesChange m.event m.reply) (history r s events)
  pub stays : (state_after r s events).store ≡ s.store

-- the reply that gives a record
abbrev pub gave : ℕ → Record → ReplyContent
gave w r = Gave w r.place r.next r.bytes

-- the first n replies to steps over a damaged store: the records from a place on, and then the fault each time
abbrev pub gives_then_faults : Store → ℕ → ℕ → FaultKind → ℕ → List ReplyContent
gives_then_faults s w c kind n = take n (map (gave w) (records_from s c) ++ replicate n (Faulted w (record { place = end_of s; kind = kind })))

-- the reply to a step, with w as the number of its walk
abbrev pub as_walk : ℕ → ReplyContent → ReplyContent
as_walk w (Gave v p next bytes) = Gave w p next bytes
as_walk w (Ended v next) = Ended w next
as_walk w (Faulted v fault) = Faulted w fault
as_walk w other = other

-- the replies to the steps of a walk, with w as the walk's number
abbrev pub step_replies : ℕ → Track → List ReplyContent
step_replies w t = map (λ x. as_walk w x.reply) (filter (λ x. x.stepped) t)

-- replies to the steps of a walk at a place are the records from the place on, and then the fault each time
abbrev pub GiveToFault : Store → ℕ → ℕ → FaultKind → List ReplyContent → Type 0
GiveToFault s w c kind content = content ≡ gives_then_faults s w c kind (length content)

-- from any event on over a damaged store, the steps of a walk get the records after its cursor, and then the fault each time
abbrev pub GivesThenFaults : Track → Type 0
GivesThenFaults t = (earlier : Track) (x : WalkEvent) (later : Track) (c : ℕ) (kind : FaultKind) → t ≡ earlier ++ (x ∷ later) → x.from ≡ Some c → x.before.fault ≡ Some kind
    → GiveToFault x.before x.walk c kind (step_replies x.walk (x ∷ later))
