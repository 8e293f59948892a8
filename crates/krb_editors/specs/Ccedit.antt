-- What ccedit does.
use Rattle.std.specs.Prelude.{ℕ, Bool, true, false, List, [], ◌∷◌, ◌++◌, None}
use Rattle.std.specs.List.{list_any}
use Rattle.krb_walk.specs.declared.event.Event.{Event}
use Rattle.krb_walk.specs.ReplyContent.{ReplyContent, Refused}
use Rattle.krb_walk.specs.Events.{SessionState, session_of}
use Rattle.krb_walk.specs.History.{state_after}
use Rattle.krb_ccache.specs.declared.version.Version.TheVariants.{V4}
use Rattle.krb_ccache.specs.Credential.{CredParts}
use Rattle.krb_ccache.specs.Rewrite.{cache_rules}
use Rattle.krb_ccache.specs.SetConfig.{setting_events}
use Rattle.krb_ccache.specs.Open.{InMemory}
use Rattle.krb_ccache.specs.Store.{CacheState, image_of}
use Rattle.krb_cache_text.specs.declared.request.Request.TheVariants as request
use Rattle.krb_keytab_text.specs.Reply.{reply_texts_by}
use Rattle.krb_cache_text.specs.Reply.{cache_record_tail}
use Rattle.krb_cache_text.specs.Script.{CacheLineParts}
use Rattle.krb_driver.specs.declared.verdict.FileKind.TheVariants.{Cache}
use Rattle.krb_driver.specs.declared.file_name.FileName.{FileName}
use Rattle.krb_driver.specs.Commands.{Answer, Ends, fair_first, CommandPlan, Effect, holds, opens}
use Rattle.krb_driver.specs.Loading.{cache_of}
use Rattle.krb_editors.specs.Sessions as session
use Rattle.krb_editors.specs.Sessions.{may_change}

-- a reply is a refusal
abbrev pub is_refusal : ReplyContent → Bool
is_refusal (Refused code) = true
is_refusal other = false

-- a session over a cache in memory
abbrev pub cache_session : SessionState InMemory → SessionState CacheState
cache_session s = session_of (λ k. k.state) s

-- a line of ccedit may change the cache
abbrev pub line_may_change : CacheLineParts → Bool
line_may_change (request.Event event) = may_change event
line_may_change (request.Setting setting) = true

-- the events of a line of ccedit over a session: its own event, or those that set its configuration value
abbrev pub line_events : SessionState CacheState → CacheLineParts → List (Event CredParts)
line_events s (request.Event event) = event ∷ []
line_events s (request.Setting setting) = setting_events s.store setting

-- the events of ccedit's lines in order, each by the session as the lines before it leave it
abbrev pub lines_events : SessionState CacheState → List CacheLineParts → List (Event CredParts)
lines_events s [] = []
lines_events s (line ∷ lines) = line_events s line ++ lines_events (state_after cache_rules s (line_events s line)) lines

-- the events of ccedit's lines over a cache, in a new session
abbrev pub cache_events : List CacheLineParts → CacheState → List (Event CredParts)
cache_events lines cache = lines_events (session.new_session cache) lines

-- what ccedit saves and prints of a cache: it is saved if a line changed it, and the lines of replies are printed
abbrev pub edits : List CacheLineParts → List ℕ → CacheState → Effect
edits lines file cache = session.session_effect Cache cache_rules image_of (reply_texts_by cache_record_tail V4 cache.version) None file cache (cache_events lines cache)

-- ccedit's lines were run over a cache, and every walk was given what is due to it
abbrev pub RunsFairly : List CacheLineParts → CacheState → Type 0
RunsFairly lines cache = session.RunsFairly cache_rules cache (cache_events lines cache)

-- the plan of ccedit: the file is held if a line may change it, and opened; the lines are run in a session over its cache
abbrev pub ccedit_plan : FileName → List CacheLineParts → CommandPlan
ccedit_plan file lines = holds (list_any line_may_change lines) file (opens file cache_of (λ k. Ends (edits lines file.name.now k)))

-- every walk of ccedit's lines was given what is due to it, over the cache that the file gave
abbrev pub ccedit_fairly : List CacheLineParts → List Answer → Type 0
ccedit_fairly lines = fair_first cache_of (RunsFairly lines)
