-- A run extended by one event, and runs over a store with a fault.
use Rattle.krb_walk.proofs.Cited.{◌≡◌, List, [], ◌∷◌, Some, refl, AllByRecursion, Event, FaultKind, Rules, SessionState, after, AllLawful, history, state_after, arith, RefusesChange, RefusesChanges, IfOk, OnOk, OnErr, ℕ, Result, ◌++◌, sym, ap, ◌∙◌, subst, append_assoc, append-nil, Step, ReplyContent, content_of, reply_to, IsReady, IsLawful, moment, replies, track_of, due_over, Ran, IsFair}
use Rattle.krb_walk.specs.declared.event.Reply.{Reply}
use Rattle.krb_walk.proofs.Effects.{ready_to_last}
use Rattle.krb_walk.proofs.Fair.{history_fair, gives_due, gives_due_at_places}

damaged_by : {S I : Type 0} (r : Rules S I) (s : SessionState S) (es : List (Event I)) (kind : FaultKind) → (r.seen s.store).fault ≡ Some kind → AllLawful r (history r s es) → AllByRecursion (λ m. RefusesChange m.event m.reply) (history r s es) × ((state_after r s es).store ≡ s.store)
damaged_by r s [] kind fault h = (tt, refl)
damaged_by {S} r s (e ∷ es) kind fault h = search (arith, damaged_by r (after r s e) es kind)

pub damaged_refuses : {S I : Type 0} (r : Rules S I) (s : SessionState S) (es : List (Event I)) (kind : FaultKind) → (r.seen s.store).fault ≡ Some kind → AllLawful r (history r s es) → RefusesChanges r s es
damaged_refuses r s es kind fault h = let both = damaged_by r s es kind fault h in record { refused = both.0; stays = both.1 }

replies_more : {S I : Type 0} (r : Rules S I) (s : SessionState S) (es : List (Event I)) (e : Event I) → replies (history r s (es ++ e ∷ [])) ≡ replies (history r s es) ++ reply_to r (state_after r s es) e ∷ []
replies_more r s [] e = refl
replies_more r s (x ∷ es) e = ap (λ (content : List ReplyContent). reply_to r s x ∷ content) (replies_more r (after r s x) es e)

state_more : {S I : Type 0} (r : Rules S I) (s : SessionState S) (es : List (Event I)) (e : Event I) → state_after r s (es ++ e ∷ []) ≡ after r (state_after r s es) e
state_more r s [] e = refl
state_more r s (x ∷ es) e = state_more r (after r s x) es e

lawful_more : {S I : Type 0} (r : Rules S I) (s : SessionState S) (es : List (Event I)) (e : Event I) → AllLawful r (history r s es) → IsLawful r (moment r (state_after r s es) e) → AllLawful r (history r s (es ++ e ∷ []))
lawful_more r s [] e all last = (last, tt)
lawful_more r s (x ∷ es) e all last = (all.0, lawful_more r (after r s x) es e all.1 last)

-- the parts of a run from which `Ran` follows
pub ran_of : {S I : Type 0} (r : Rules S I) (old new : SessionState S) (es : List (Event I)) (old_replies new_replies : List ReplyContent) → IsReady r old → new_replies ≡ old_replies ++ replies (history r old es) → new ≡ state_after r old es → AllLawful r (history r old es) → Ran r old new es old_replies new_replies
ran_of {S} r old new es old_replies new_replies ready content is lawful = record {
  replies_are = content;
  state = is;
  run = record { ready = ready; lawful = lawful };
  is_ready = subst (IsReady r) (sym is) (ready_to_last r old es ready lawful);
  given_is_due = λ w. gives_due r old es w ready lawful;
  given_is_due_at_places = λ w keeps. gives_due_at_places r old es w ready lawful keeps ∙ sym (ap (λ (s : SessionState S). due_over (track_of r old es w) (r.seen s.store)) is);
  fair = λ w. subst (λ (s : SessionState S). IsFair (track_of r old es w) (r.seen s.store)) (sym is) (history_fair r old es w ready lawful);
  damaged_refuses = λ kind fault. damaged_refuses r old es kind fault lawful;
}

pub ran_none : {S I : Type 0} (r : Rules S I) (s : SessionState S) (content : List ReplyContent) → IsReady r s → Ran r s s [] content content
ran_none r s content ready = ran_of r s s [] content content ready (sym (append-nil content)) refl tt

pub ran_more : {S I : Type 0} (r : Rules S I) (old mid new : SessionState S) (es : List (Event I)) (e : Event I) (t u v : List ReplyContent) → IsReady r old → Ran r old mid es t u → new ≡ after r mid e → IsLawful r (moment r mid e) → v ≡ u ++ reply_to r mid e ∷ [] → Ran r old new (es ++ e ∷ []) t v
ran_more {S} r old mid new es e t u v ready ran is lawful content =
    ran_of r old new (es ++ e ∷ []) t v ready
    (content ∙ ap (λ (s : SessionState S). u ++ reply_to r s e ∷ []) ran.state ∙ ap (λ (x : List ReplyContent). x ++ reply_to r (state_after r old es) e ∷ []) ran.replies_are
    ∙ append_assoc t (replies (history r old es)) (reply_to r (state_after r old es) e ∷ []) ∙ sym (ap (λ (x : List ReplyContent). t ++ x) (replies_more r old es e)))
    (is ∙ ap (λ (s : SessionState S). after r s e) ran.state ∙ sym (state_more r old es e))
    (lawful_more r old es e ran.run.lawful (subst (λ (s : SessionState S). IsLawful r (moment r s e)) ran.state lawful))

-- a run of one event
ran_one : {S I : Type 0} (r : Rules S I) (old new : SessionState S) (e : Event I) (content : ReplyContent) → IsReady r old → content ≡ reply_to r old e → new ≡ after r old e → IsLawful r (moment r old e) → Ran r old new (e ∷ []) [] (content ∷ [])
ran_one r old new e content ready says is lawful = ran_of r old new (e ∷ []) [] (content ∷ []) ready (ap (λ (x : ReplyContent). x ∷ []) says) is (lawful, tt)

-- a step whose reply is not appended
pub ran_step : {S I : Type 0} (r : Rules S I) (old new : SessionState S) (w : ℕ) → IsReady r old → new ≡ after {I = I} r old (Step w) → Ran {I = I} r old new (Step w ∷ []) [] (reply_to {I = I} r old (Step w) ∷ [])
ran_step r old new w ready is = ran_one r old new (Step w) _ ready refl is (search arith)

-- an event that is applied, or runs out of memory
pub ran_applied : {S I A E : Type 0} (r : Rules S I) (old new : SessionState S) (e : Event I) (result : Result (Reply A) E) → IsReady r old → IfOk result (λ x. content_of x ≡ reply_to r old e) → OnOk result (new ≡ after r old e) → OnOk result (IsLawful r (moment r old e)) → IfOk result (λ x. Ran r old new (e ∷ []) [] (content_of x ∷ []))
ran_applied r old new e result ready says is lawful = search (arith, ran_one)

-- what always holds, holds if there is an error
pub on_err : {T E P : Type 0} (r : Result T E) → P → OnErr r P
on_err r holds = search arith
