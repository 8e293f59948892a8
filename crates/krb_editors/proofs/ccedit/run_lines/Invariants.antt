use Rattle.krb_editors.proofs.Cited.{map, take, Ran, content_of, cache_rules, cache_session, lines_events, new_session}
use Rattle.krb_editors.proofs.ccedit.run_lines.Given as goal

-- the lines so far were run
abbrev pub invariant-lines : goal.invariant-lines
invariant-lines g l =
    Ran cache_rules (new_session l.fn.cache.state) (cache_session l.session) (lines_events (new_session l.fn.cache.state) (take l.line-index l.lines)) (map content_of l.fn.replies.items) (map content_of l.replies.items)
