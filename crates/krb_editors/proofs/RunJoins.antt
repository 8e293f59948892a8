-- Runs one after the other, and what lines do to a cache.
use Rattle.krb_editors.proofs.Cited.{arith, ◌≡◌, ◌<◌, ℕ, List, [], ◌∷◌, ◌++◌, length, take, refl, sym, ap, subst, ◌∙◌, append_assoc, take_more, Event, ReplyContent, Rules, SessionState, after, reply_to, AllLawful, history, replies, state_after, Ran, ran_of, false, map, append-nil, put_reply, cache_rules, CacheState, is_refusal, line_events, lines_events, Put, Cut, Code, CredParts, ◌+◌, get_or, Result}
use Rattle.krb_ccache.specs.Changes.{is_refused, put_result}
use Rattle.krb_ccache.specs.SetConfig.{SettingParts, entry_of, match_places, setting_events}
use Rattle.krb_cache_text.specs.Script.{CacheLineParts}

pub state_join : {S I : Type 0} (r : Rules S I) (s : SessionState S) (es fs : List (Event I)) → state_after r s (es ++ fs) ≡ state_after r (state_after r s es) fs
state_join r s [] fs = refl
state_join r s (e ∷ es) fs = state_join r (after r s e) es fs

replies_join : {S I : Type 0} (r : Rules S I) (s : SessionState S) (es fs : List (Event I)) → replies (history r s (es ++ fs)) ≡ replies (history r s es) ++ replies (history r (state_after r s es) fs)
replies_join r s [] fs = refl
replies_join r s (e ∷ es) fs = ap (λ (reported : List ReplyContent). reply_to r s e ∷ reported) (replies_join r (after r s e) es fs)

lawful_join : {S I : Type 0} (r : Rules S I) (s : SessionState S) (es fs : List (Event I)) → AllLawful r (history r s es) → AllLawful r (history r (state_after r s es) fs) → AllLawful r (history r s (es ++ fs))
lawful_join r s [] fs all more = more
lawful_join r s (e ∷ es) fs all more = (all.0, lawful_join r (after r s e) es fs all.1 more)

-- two runs, one after the other, are one run
pub ran_join : {S I : Type 0} (r : Rules S I) (old mid new : SessionState S) (es fs : List (Event I)) (t u v : List ReplyContent) → Ran r old mid es t u → Ran r mid new fs u v → Ran r old new (es ++ fs) t v
ran_join {S} r old mid new es fs t u v first second =
    ran_of r old new (es ++ fs) t v first.run.ready
    (grind (arith, second.replies_are, first.replies_are, first.state, append_assoc, replies_join r old es fs))
    (grind (arith, second.state, first.state, state_join r old es fs))
    (lawful_join r old es fs first.run.lawful (subst (λ (s : SessionState S). AllLawful r (history r s fs)) first.state second.run.lawful))

-- a run ends in the state that its events leave
pub ran_to_end : {S I : Type 0} (r : Rules S I) (old new : SessionState S) (es : List (Event I)) (t u : List ReplyContent) → Ran r old new es t u → Ran r old (state_after r old es) es t u
ran_to_end {S} r old new es t u ran = subst (λ (s : SessionState S). Ran r old s es t u) ran.state ran

-- the first events and one more
pub one_more : {I : Type 0} (es : List (Event I)) (i : ℕ) (e : Event I) → i < length es → e ≡ get_or es i e → take (i + 1) es ≡ take i es ++ e ∷ []
one_more {I} es i e below is = take_more es i e below ∙ ap (λ (x : Event I). take i es ++ x ∷ []) (sym is)

-- a run of the first events, and one of the next
pub ran_event : {S I : Type 0} (r : Rules S I) (start old new : SessionState S) (es : List (Event I)) (i : ℕ) (e : Event I) (t u v : List ReplyContent) → i < length es → e ≡ get_or es i e
    → Ran r start old (take i es) t u → Ran r old new (e ∷ []) u v → Ran r start new (take (i + 1) es) t v
ran_event r start old new es i e t u v below is first second = rw (one_more es i e below is) (ran_join r start old new (take i es) (e ∷ []) t u v first second)

-- ---- a value

-- an addition was refused iff its reply is a refusal
refusal_reply : (given : Result (ℕ × CacheState) Code) → is_refused given ≡ is_refusal (put_reply given)
refusal_reply given = grind arith

-- the addition of a setting was not refused, and the removals follow
pub set_placed : (old mid new : SessionState CacheState) (s : SettingParts) (removals : List (Event CredParts)) (t u v : List ReplyContent) → removals ≡ map Cut (match_places old.store s)
    → is_refusal (reply_to cache_rules old (Put (entry_of old.store.principal s))) ≡ false → Ran cache_rules old mid (Put (entry_of old.store.principal s) ∷ []) t u
    → Ran cache_rules mid new removals u v → Ran cache_rules old new (setting_events old.store s) t v
set_placed old mid new s removals t u v removals_are placed first second =
    let entry = entry_of old.store.principal s in
    let joined : Ran cache_rules old new (Put entry ∷ removals) t v = ran_join cache_rules old mid new (Put entry ∷ []) removals t u v first second in
    rw (refusal_reply (put_result old.store entry) ∙ placed) (rw removals_are at joined)

-- ---- lines

-- the events of lines and of one more
lines_more : (s : SessionState CacheState) (lines : List CacheLineParts) (line : CacheLineParts)
    → lines_events s (lines ++ line ∷ []) ≡ lines_events s lines ++ line_events (state_after cache_rules s (lines_events s lines)) line
lines_more s [] line = append-nil (line_events s line)
lines_more s (x ∷ xs) line =
    let first = line_events s x in
    let next = state_after cache_rules s first in
    grind (arith, lines_more next xs line, append_assoc, state_join cache_rules s first (lines_events next xs))

-- a run of the first lines, and one of the next
pub ran_line : (start old new : SessionState CacheState) (lines : List CacheLineParts) (i : ℕ) (line : CacheLineParts) (t u v : List ReplyContent) → i < length lines → line ≡ get_or lines i line
    → Ran cache_rules start old (lines_events start (take i lines)) t u → Ran cache_rules old new (line_events old line) u v
    → Ran cache_rules start new (lines_events start (take (i + 1) lines)) t v
ran_line start old new lines i line t u v below is first second =
    let es = lines_events start (take i lines) in
    let fs = line_events (state_after cache_rules start es) line in
    let next : Ran cache_rules old new fs u v = subst (λ (s : SessionState CacheState). Ran cache_rules old new (line_events s line) u v) first.state second in
    let more : take (i + 1) lines ≡ take i lines ++ line ∷ [] = take_more lines i line below ∙ ap (λ (x : CacheLineParts). take i lines ++ x ∷ []) (sym is) in
    rw more (rw (lines_more start (take i lines) line) (ran_join cache_rules start old new es fs t u v first next))
