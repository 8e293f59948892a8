use Rattle.krb_editors.proofs.ForAnswers.{ℕ, List, map, ap, ◌∙◌, content_of, cache_rules, image_of, reply_texts_by, replied, V4, Cache, None, made_as, made_so, ran_fair, session_made}
use Rattle.krb_cache_text.specs.Reply.{cache_record_tail}
use Rattle.krb_editors.specs.Ccedit.{RunsFairly, cache_events, edits}
use Rattle.krb_editors.proofs.ccedit.edit.Goals as goal

-- what the session did, and what is saved and printed after it
pub returns-clause-made : goal.returns-clause-made
returns-clause-made g c =
    let cache = c.args.cache.state in
    let events = cache_events c.args.lines.now cache in
    let reported = map content_of c.run_lines.new.replies.items in
    let bytes = c.into_image.result.items in
    let ran = rw c.new-replies.ensures.items at c.in_ok-cache.ensures.ran in
    let image = c.into_image.ensures.spelled ∙ ap image_of c.in_ok-cache.ensures.left in
    made_as (λ (file : List ℕ). replied Cache file None reported bytes (reply_texts_by cache_record_tail V4 cache.version reported)) (λ (file : List ℕ). edits c.args.lines.now file cache)
    (session_made Cache cache_rules image_of (reply_texts_by cache_record_tail V4 cache.version) cache events reported bytes ran image None)
    c.replied.result (rw (c.deref.ensures.value, c.version.ensures) at c.replied.ensures)

-- every walk is given what is due to it
pub returns-clause-fair : goal.returns-clause-fair
returns-clause-fair g c =
    let cache = c.args.cache.state in
    let events = cache_events c.args.lines.now cache in
    let ran = rw c.new-replies.ensures.items at c.in_ok-cache.ensures.ran in
    made_so (RunsFairly c.args.lines.now cache) (ran_fair cache_rules cache events (map content_of c.run_lines.new.replies.items) ran) c.replied.result
