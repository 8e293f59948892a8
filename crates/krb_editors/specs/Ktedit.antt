-- What ktedit does.
use Rattle.std.specs.Prelude.{ℕ, List, Option}
use Rattle.std.specs.List.{list_any}
use Rattle.krb_wire.specs.declared.format.KtFormat.TheVariants.{V2}
use Rattle.krb_wire.specs.declared.format.Order.{Order}
use Rattle.krb_walk.specs.declared.event.Event.{Event}
use Rattle.krb_keytab.specs.Entry.{EntryParts}
use Rattle.krb_keytab.specs.Rewrite.{keytab_rules}
use Rattle.krb_keytab.specs.Store.{KeytabState, image_of}
use Rattle.krb_keytab_text.specs.Reply.{record_tail, reply_texts_by}
use Rattle.krb_audit.specs.Findings.{hides_added}
use Rattle.krb_driver.specs.declared.verdict.FileKind.TheVariants.{Keytab}
use Rattle.krb_driver.specs.declared.file_name.FileName.{FileName}
use Rattle.krb_driver.specs.Commands.{Answer, Ends, fair_first, CommandPlan, Effect, holds, opens}
use Rattle.krb_driver.specs.Loading.{keytab_or_empty}
use Rattle.krb_editors.specs.Sessions as session
use Rattle.krb_editors.specs.Sessions.{may_change}

-- the place from which on MIT's programs see no entry after a script, if the script added an entry there or later
abbrev pub hidden : List (Event EntryParts) → KeytabState → Option ℕ
hidden events keytab = hides_added (session.left keytab_rules keytab events) (session.added keytab_rules keytab events)

-- what ktedit saves and prints of a keytab: it is saved if an event changed it, and the lines of replies are printed
abbrev pub edits : List (Event EntryParts) → List ℕ → KeytabState → Effect
edits events file keytab = session.session_effect Keytab keytab_rules image_of (reply_texts_by record_tail V2 keytab.format) (hidden events keytab) file keytab events

-- ktedit's events were run over a keytab, and every walk was given what is due to it
abbrev pub RunsFairly : List (Event EntryParts) → KeytabState → Type 0
RunsFairly events keytab = session.RunsFairly keytab_rules keytab events

-- the plan of ktedit: the file is held if an event may change it, and opened; the events are run in a session over its keytab
abbrev pub ktedit_plan : Order → FileName → List (Event EntryParts) → CommandPlan
ktedit_plan order file events = holds (list_any may_change events) file (opens file (keytab_or_empty order file.in_place) (λ k. Ends (edits events file.name.now k)))

-- every walk of ktedit's events was given what is due to it, over the keytab that the file gave
abbrev pub ktedit_fairly : Order → FileName → List (Event EntryParts) → List Answer → Type 0
ktedit_fairly order file events = fair_first (keytab_or_empty order file.in_place) (RunsFairly events)
