use Rattle.krb_editors.proofs.ForAnswers.{◌≡◌, ℕ, List, [], map, ap, subst, ◌∙◌, content_of, SessionState, session_of, history, record_tail, reply_texts_by, HaveSame, followed_over, added, left, new_session, replied, V2, keytab_rules, hides_added, Keytab, RunsFairly, edits, hidden, hides_same, begun_fair, left_begun, made_as, made_so, ran_begun, session_made}
use Rattle.krb_keytab.specs.Store.{InMemory, KeytabState, image_of}
use Rattle.krb_editors.proofs.ktedit.edit.Goals as goal

-- what the session did, and what is saved and printed after it
pub returns-clause-made : goal.returns-clause-made
returns-clause-made g c =
    let keytab = c.args.keytab.state in
    let events = c.args.events.now in
    let reported = map content_of c.run_following.new.replies.items in
    let bytes = c.into_image.result.items in
    let old = session_of (λ (k : InMemory). k.state) c.new-session.result in
    let new = session_of (λ (k : InMemory). k.state) c.run_following.new.session in
    let begins = ap (session_of (λ (k : InMemory). k.state)) c.new-session.ensures.is ∙ ap (λ (k : InMemory). new_session k.state) c.in-Ok.ensures.ok in
    let ran = rw c.new-replies.ensures.items at c.in_ok-added.ensures.ran in
    let store : c.into_keytab-keytab.result.state ≡ left keytab_rules keytab events = ap (λ (k : InMemory). k.state) (c.into_keytab-keytab.ensures ∙ c.into_store.ensures) ∙ left_begun keytab_rules keytab events old new reported begins ran in
    let image = c.into_image.ensures.spelled ∙ ap image_of store in
    let same = subst (λ (s : SessionState KeytabState). HaveSame c.in_ok-added.added.items (followed_over keytab_rules [] (history keytab_rules s events))) begins c.in_ok-added.ensures.added in
    let hides : c.hidden_from-hidden.result ≡ hidden events keytab =
    rw store at c.hidden_from-hidden.ensures
    ∙ ap (hides_added (left keytab_rules keytab events)) c.deref.ensures.value
    ∙ hides_same (left keytab_rules keytab events) c.in_ok-added.added.items (added keytab_rules keytab events) same in
    made_as (λ (file : List ℕ). replied Keytab file (hidden events keytab) reported bytes (reply_texts_by record_tail V2 keytab.format reported)) (λ (file : List ℕ). edits events file keytab)
    (session_made Keytab keytab_rules image_of (reply_texts_by record_tail V2 keytab.format) keytab events reported bytes (ran_begun keytab_rules keytab events old new reported begins ran) image (hidden events keytab))
    c.replied.result (rw (c.deref-2.ensures.value, c.format-format.ensures, hides) at c.replied.ensures)

-- every walk is given what is due to it
pub returns-clause-fair : goal.returns-clause-fair
returns-clause-fair g c =
    let keytab = c.args.keytab.state in
    let events = c.args.events.now in
    let old = session_of (λ (k : InMemory). k.state) c.new-session.result in
    let new = session_of (λ (k : InMemory). k.state) c.run_following.new.session in
    let begins = ap (session_of (λ (k : InMemory). k.state)) c.new-session.ensures.is ∙ ap (λ (k : InMemory). new_session k.state) c.in-Ok.ensures.ok in
    let ran = rw c.new-replies.ensures.items at c.in_ok-added.ensures.ran in
    made_so (RunsFairly events keytab) (begun_fair keytab_rules keytab events old new (map content_of c.run_following.new.replies.items) begins ran) c.replied.result
