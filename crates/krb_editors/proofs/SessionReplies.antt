-- What was made of a store by a session over it.
use Rattle.krb_editors.proofs.Cited.{arith, ◌≡◌, ℕ, List, [], refl, subst, Event, ReplyContent, Rules, SessionState, state_after, Ran, text_effect, Effect, new_session, left, replied, session_effect, RunsFairly, Option, Result, Ok, IfOk}
use Rattle.krb_driver.specs.declared.command.Made.{Made}
use Rattle.krb_driver.specs.declared.command.Output.{Output}
use Rattle.krb_driver.specs.declared.verdict.FileKind.{FileKind}

-- a run of a session that began as a new one is a run of the new session over the store
pub ran_begun : {S I : Type 0} (r : Rules S I) (store : S) (events : List (Event I)) (old new : SessionState S) (reported : List ReplyContent)
    → old ≡ new_session store → Ran r old new events [] reported → Ran r (new_session store) (state_after r (new_session store) events) events [] reported
ran_begun r store events old new reported begins ran = grind (arith, begins, ran, ran.state)

-- every walk is given what is due to it
pub ran_fair : {S I : Type 0} (r : Rules S I) (store : S) (events : List (Event I)) (reported : List ReplyContent)
    → Ran r (new_session store) (state_after r (new_session store) events) events [] reported → RunsFairly r store events
ran_fair r store events reported ran = subst (λ (t : List ReplyContent). Ran r (new_session store) (state_after r (new_session store) events) events [] t) ran.replies_are ran

-- the same for a session that began as a new one
pub begun_fair : {S I : Type 0} (r : Rules S I) (store : S) (events : List (Event I)) (old new : SessionState S) (reported : List ReplyContent)
    → old ≡ new_session store → Ran r old new events [] reported → RunsFairly r store events
begun_fair r store events old new reported begins ran = ran_fair r store events reported (ran_begun r store events old new reported begins ran)

-- such a session leaves the store that the events leave
pub left_begun : {S I : Type 0} (r : Rules S I) (store : S) (events : List (Event I)) (old new : SessionState S) (reported : List ReplyContent)
    → old ≡ new_session store → Ran r old new events [] reported → new.store ≡ left r store events
left_begun r store events old new reported begins ran = grind (arith, begins, ran.state)

-- what is due after the replies of a session is the effect of the session
pub session_made : {S I : Type 0} (kind : FileKind) (r : Rules S I) (image : S → List ℕ) (lines : List ReplyContent → List ℕ) (store : S) (events : List (Event I)) (reported : List ReplyContent) (bytes : List ℕ)
    → Ran r (new_session store) (state_after r (new_session store) events) events [] reported → bytes ≡ image (left r store events)
    → (hidden : Option ℕ) (file : List ℕ) → replied kind file hidden reported bytes (lines reported) ≡ session_effect kind r image lines hidden file store events
session_made kind r image lines store events reported bytes ran bytes_are hidden file = rw (ran.replies_are, bytes_are) refl

-- the effect is what is due, if the two are the same for every file
pub made_as : {A E : Type 0} (given due : List ℕ → Effect) → ((file : List ℕ) → given file ≡ due file) → (result : Result (Made A (Output A)) E)
    → IfOk result (λ made. (file : List ℕ) → text_effect file (Ok made) ≡ given file) → IfOk result (λ made. (file : List ℕ) → text_effect file (Ok made) ≡ due file)
made_as given due same result is = grind (arith, same, is)

-- what holds anyway also holds if something was made
pub made_so : {X E : Type 0} (P : Type 0) → P → (result : Result X E) → IfOk result (λ made. P)
made_so P holds result = grind (arith, holds)
