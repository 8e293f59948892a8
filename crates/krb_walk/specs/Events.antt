-- The reply to each event, and the state after it.
use Rattle.std.specs.Prelude.{ℕ, cond, ◌&&◌, nat_lt, List, [], ◌∷◌, ◌++◌, length, map, Option, Some, None, Result, Ok, Err, slice_get, slice_set, ◌≡◌, true, false, IsErr}
use Rattle.krb_walk.specs.declared.event.Event.{Event}
use Rattle.krb_walk.specs.declared.event.Event.TheVariants.{Start, Resume, Step, Put, Cut, Rewrite}
use Rattle.krb_walk.specs.declared.fault.FaultKind.{FaultKind}
use Rattle.krb_walk.specs.declared.refusal.Code.{Code}
use Rattle.krb_walk.specs.declared.refusal.Code.TheVariants.{NotAPlace, NoSuchWalk, TooManyWalks}
use Rattle.krb_walk.specs.declared.stop.Stop.{Stop}
use Rattle.krb_walk.specs.Store.{Store, Record, end_of, is_place, next_live, stop_at}
use Rattle.krb_walk.specs.Ranks.{carry}
use Rattle.krb_walk.specs.ReplyContent.{ReplyContent, Started, Gave, Ended, Faulted, Placed, Gone, Rewritten, Refused, is_gave}
use Rattle.krb_walk.specs.Rules.{Rules}
use Rattle.krb_walk.specs.declared.refusal.Refusal.{Refusal}
use Rattle.krb_walk.specs.declared.refusal.Refusal.TheVariants.{NoMemory}

-- a store, and the cursor of each walk
pub record SessionState (S : Type 0) : Type 0 where
  pub store : S
  pub cursors : List ℕ

-- a session, with the state of its store
abbrev pub session_of : {S T : Type 0} → (S → T) → SessionState S → SessionState T
session_of state s = record { store = state s.store; cursors = s.cursors }

-- ---- Start and Resume: a new walk at a place; a session has up to 1,024 walks

-- the reply to Start, where p is the first place
abbrev pub start_reply : List ℕ → ℕ → ReplyContent
start_reply cursors p = cond (nat_lt (length cursors) 1024) (Started (length cursors) p) (Refused TooManyWalks)

-- the cursors after Start
abbrev pub start_cursors : List ℕ → ℕ → List ℕ
start_cursors cursors p = cond (nat_lt (length cursors) 1024) (cursors ++ p ∷ []) cursors

-- the reply to Resume at p
abbrev pub resume_reply : Store → List ℕ → ℕ → ReplyContent
resume_reply s cursors p = cond (nat_lt (length cursors) 1024) (cond (is_place s p) (Started (length cursors) p) (Refused NotAPlace)) (Refused TooManyWalks)

-- the cursors after Resume at p
abbrev pub resume_cursors : Store → List ℕ → ℕ → List ℕ
resume_cursors s cursors p = cond (nat_lt (length cursors) 1024 && is_place s p) (cursors ++ p ∷ []) cursors

-- ---- Step: the cursor goes past the next live cell; if there is none, to the end place

-- the reply if no live cell is left
abbrev pub end_reply : ℕ → ℕ → Option FaultKind → ReplyContent
end_reply w end None = Ended w end
end_reply w end (Some kind) = Faulted w (record { place = end; kind = kind })

-- the reply to a step that came to a record, or to none
abbrev pub stop_reply : Store → ℕ → Option Record → ReplyContent
stop_reply s w (Some r) = Gave w r.place r.next r.bytes
stop_reply s w None = end_reply w (end_of s) s.fault

-- the cursor after a step that came to a record, or to none
abbrev pub stop_cursor : ℕ → Option Record → ℕ
stop_cursor end (Some r) = r.next
stop_cursor end None = end

-- the reply to a step of walk w, whose cursor is given, or which does not exist
abbrev pub step_reply : Store → ℕ → Option ℕ → ReplyContent
step_reply s w None = Refused NoSuchWalk
step_reply s w (Some c) = stop_reply s w (next_live s c)

-- the cursors after a step
abbrev pub step_cursors : Store → List ℕ → ℕ → Option ℕ → List ℕ
step_cursors s cursors w None = cursors
step_cursors s cursors w (Some c) = slice_set cursors w (stop_cursor (end_of s) (next_live s c))

-- the result of a step without the record's bytes
abbrev pub step_result : Store → Option ℕ → Result Stop Code
step_result s None = Err NoSuchWalk
step_result s (Some c) = Ok (stop_at s c)

-- ---- Put and Cut: what the store's rules give

-- the reply to Put
abbrev pub put_reply : {S : Type 0} → Result (ℕ × S) Code → ReplyContent
put_reply (Ok given) = Placed given.0
put_reply (Err code) = Refused code

-- the store after Put
abbrev pub put_store : {S : Type 0} → S → Result (ℕ × S) Code → S
put_store old (Ok given) = given.1
put_store old (Err code) = old

-- the reply to Cut at p
abbrev pub cut_reply : {S : Type 0} → ℕ → Result S Code → ReplyContent
cut_reply p (Ok new) = Gone p
cut_reply p (Err code) = Refused code

-- a store after a removal or a rewrite: the new one, or the old one if it was refused
abbrev pub cut_store : {S : Type 0} → S → Result S Code → S
cut_store old (Ok new) = new
cut_store old (Err code) = old

-- the reply to Rewrite: the new end place
abbrev pub rewrite_reply : {S : Type 0} → (S → Store) → Result S Code → ReplyContent
rewrite_reply seen (Ok new) = Rewritten (end_of (seen new))
rewrite_reply seen (Err code) = Refused code

-- the cursors after a rewrite: each is carried to its new place
abbrev pub rewrite_cursors : {S : Type 0} → (S → Store) → S → List ℕ → Result S Code → List ℕ
rewrite_cursors seen old cursors (Ok new) = map (carry (seen old) (seen new)) cursors
rewrite_cursors seen old cursors (Err code) = cursors

-- ---- the whole table

-- the reply to an event
abbrev pub reply_to : {S I : Type 0} → Rules S I → SessionState S → Event I → ReplyContent
reply_to r s Start = start_reply s.cursors (r.seen s.store).first
reply_to r s (Resume p) = resume_reply (r.seen s.store) s.cursors p
reply_to r s (Step w) = step_reply (r.seen s.store) w (slice_get s.cursors w)
reply_to r s (Put item) = put_reply (r.put s.store item)
reply_to r s (Cut p) = cut_reply p (r.cut s.store p)
reply_to r s Rewrite = rewrite_reply r.seen (r.rewrite s.store)

-- the store after an event
abbrev pub store_after : {S I : Type 0} → Rules S I → SessionState S → Event I → S
store_after r s Start = s.store
store_after r s (Resume p) = s.store
store_after r s (Step w) = s.store
store_after r s (Put item) = put_store s.store (r.put s.store item)
store_after r s (Cut p) = cut_store s.store (r.cut s.store p)
store_after r s Rewrite = cut_store s.store (r.rewrite s.store)

-- the cursors after an event
abbrev pub cursors_after : {S I : Type 0} → Rules S I → SessionState S → Event I → List ℕ
cursors_after r s Start = start_cursors s.cursors (r.seen s.store).first
cursors_after r s (Resume p) = resume_cursors (r.seen s.store) s.cursors p
cursors_after r s (Step w) = step_cursors (r.seen s.store) s.cursors w (slice_get s.cursors w)
cursors_after r s (Put item) = s.cursors
cursors_after r s (Cut p) = s.cursors
cursors_after r s Rewrite = rewrite_cursors r.seen s.store s.cursors (r.rewrite s.store)

-- the state after an event
abbrev pub after : {S I : Type 0} → Rules S I → SessionState S → Event I → SessionState S
after r s e = record { store = store_after r s e; cursors = cursors_after r s e }

-- ---- what takes no memory

-- an addition that did not run out of memory
abbrev pub HadMemory : Result ℕ Refusal → Type 0
HadMemory (Err NoMemory) = ⊥
HadMemory result = Unit {0}

-- an event that takes no memory: any but a step that gives a record, an addition not `takes_none`, an accepted rewrite
abbrev pub TakesNone : {S I : Type 0} → Rules S I → SessionState S → Event I → Type 0
TakesNone r s (Step w) = is_gave (reply_to r s (Step w)) ≡ false
TakesNone r s (Put item) = r.takes_none s.store item ≡ true
TakesNone r s Rewrite = IsErr (r.rewrite s.store)
TakesNone r s e = Unit {0}
