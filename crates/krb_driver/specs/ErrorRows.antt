-- What is said of each error: one table.
use Rattle.std.specs.Prelude.{ℕ, List, [], codes}
use Rattle.krb_walk.specs.declared.refusal.Code.{Code}
use Rattle.krb_walk.specs.declared.refusal.Code.TheVariants.{Damaged, Full, NotAPlace, NotFound, NotLive, ReadOnly}
use Rattle.krb_walk.specs.Phrases.{code_number, code_phrase}
use Rattle.krb_text.specs.declared.line_fault.LineFault.{LineFault}
use Rattle.krb_text.specs.declared.line_fault.LineFault.TheVariants.{UnknownWord, WordCount}
use Rattle.krb_text.specs.LineFault.{line_fault_number}
use Rattle.krb_driver.specs.declared.error.RunError.{RunError}
use Rattle.krb_driver.specs.declared.error.RunError.TheVariants as error
use Rattle.krb_driver.specs.declared.not_opened.OpenFault.{OpenFault}
use Rattle.krb_driver.specs.declared.not_opened.OpenFault.TheVariants as fault
use Rattle.krb_driver.specs.declared.reporting.row.ErrorRow.{ErrorRow}
use Rattle.krb_driver.specs.declared.reporting.row.Explains.{Explains}
use Rattle.krb_driver.specs.declared.reporting.row.Explains.TheVariants as by
use Rattle.krb_driver.specs.declared.reporting.row.Explains.TheVariants.{Phrase, Cause}
use Rattle.krb_driver.specs.declared.reporting.row.Subject.{Subject}
use Rattle.krb_driver.specs.declared.reporting.row.Subject.TheVariants.{Run, File, Line}
use Rattle.krb_driver.specs.declared.reporting.said.Said.{Said}
use Rattle.krb_driver.specs.declared.reporting.said.Said.TheVariants as said
use Rattle.krb_driver.specs.declared.verdict.FileKind.{FileKind}
use Rattle.krb_driver.specs.declared.verdict.FileKind.TheVariants.{Keytab}
use Rattle.krb_driver.specs.declared.verdict.TicketsSought.{TicketsSought}
use Rattle.krb_driver.specs.declared.verdict.TicketsSought.TheVariants.{Asked, OfServices}
use Rattle.krb_driver.specs.Messages.{numbered}
use Rattle.krb_driver.specs.NotOpened.{not_opened_phrase, opening_number}

-- ---- phrases

-- a file or an input that is too large
abbrev pub too_large : List ℕ
too_large = codes "it has more than 16,777,216 bytes"

-- the phrase for a refusal by a file of that kind
abbrev pub refusal_phrase : FileKind → Code → List ℕ
refusal_phrase Keytab Damaged = codes "the file is damaged; klist -k tells where"
refusal_phrase Keytab NotAPlace = codes "no record, hole or end stands at this place"
refusal_phrase Keytab NotLive = codes "no entry stands at this place"
refusal_phrase Keytab ReadOnly = code_phrase ReadOnly
refusal_phrase kind Full = codes "the file would be longer than 16,777,216 bytes"
refusal_phrase kind NotAPlace = codes "no credential or end stands at this place"
refusal_phrase kind NotLive = codes "no ticket or configuration entry stands at this place"
refusal_phrase kind ReadOnly = codes "version 3 changes by a rewrite: echo rewrite | krbfile ccedit FILE"
refusal_phrase kind code = code_phrase code

-- why nothing was removed from a file
abbrev pub nothing_phrase : FileKind → List ℕ
nothing_phrase Keytab = codes "no entry has what was asked for"
nothing_phrase kind = codes "no ticket has what was asked for"

-- why no ticket was looked at
abbrev pub no_ticket_phrase : TicketsSought → List ℕ
no_ticket_phrase Asked = codes "no ticket has what was asked for"
no_ticket_phrase OfServices = codes "no ticket of a service"

-- ---- rows

-- what a message says: a text, a refusal, the fault of a line, why a file did not open, or from where on MIT's programs see no entry
pub data Says : Type 0 where
  Alone : List ℕ → Says
  Refused : Code → Says
  Faulty : LineFault → Says
  NotOpened : OpenFault → Says
  Hidden : ℕ → Says

-- the text of what a message says
abbrev pub said_text : Says → List ℕ
said_text (Alone text) = text
said_text (Refused code) = numbered (codes "refused ") (code_number code) []
said_text (Faulty why) = numbered (codes "fault ") (line_fault_number why) []
said_text (NotOpened (fault.Keytab why)) = numbered (codes "not a keytab (") (opening_number (fault.Keytab why)) (codes ")")
said_text (NotOpened (fault.Cache why)) = numbered (codes "not a cache (") (opening_number (fault.Cache why)) (codes ")")
said_text (Hidden place) = numbered (codes "MIT's programs see no entry from ") place (codes " on")

-- the row of an error: the exit status of a run that it ends, what the message is about and says, what explains it, the phrase for that, and the name that hold's last line has for it, where that is not its number or its cause's
pub record Row : Type 0 where
  pub status : ℕ
  pub subject : Subject
  pub says : Says
  pub explains : Explains
  pub phrase : List ℕ
  pub name : List ℕ

-- a row by its columns
abbrev pub row : ℕ → Subject → Says → Explains → List ℕ → List ℕ → Row
row status subject says explains phrase name = record { status = status; subject = subject; says = says; explains = explains; phrase = phrase; name = name }

-- the row of an error
abbrev pub error_row : RunError → Row
error_row error.InputTooLarge = row 1 Run (Alone (codes "input too large")) Phrase too_large (codes "EFBIG")
error_row error.InputNotRead = row 3 Run (Alone (codes "cannot read input")) Cause [] []
error_row error.InputNotWhole = row 1 Run (Alone (codes "input is not whole")) Phrase (codes "it is not a length, a newline and just as many bytes") (codes "EBADMSG")
error_row (error.DamagedInput why) = row 1 File (Refused Damaged) (by.Input why) [] []
error_row (error.FaultyLine line why) = row 1 (Line line) (Faulty why) (by.LineFault why) [] []
error_row (error.UnknownWord line word) = row 1 (Line line) (Faulty UnknownWord) (by.First word) [] []
error_row (error.FromPassword line) = row 1 (Line line) (Faulty WordCount) Phrase (codes "keys are not made from passwords here") []
error_row (error.AsksForHelp line) = row 1 (Line line) (Faulty UnknownWord) Phrase (codes "see krbfile ktutil --help") []
error_row (error.LineRefused line code) = row 1 (Line line) (Refused code) Phrase (refusal_phrase Keytab code) []
error_row (error.NoSuchFile source) = row 1 File (Alone (codes "no such file")) (by.Missing source) [] (codes "ENOENT")
error_row (error.OtherType kind source) = row 1 File (Alone (codes "no such file")) (by.Type kind source) [] (codes "ENOENT")
error_row error.TypedName = row 3 File (Alone (codes "cannot write")) by.TypedName [] []
error_row error.FileTooLarge = row 1 File (Alone (codes "file too large")) Phrase too_large (codes "EFBIG")
error_row error.FileNotRead = row 3 File (Alone (codes "cannot read")) Cause [] []
error_row error.FileNotWritten = row 3 File (Alone (codes "cannot write")) Cause [] []
error_row (error.NotOpened why) = row 1 File (NotOpened why.fault) Phrase (not_opened_phrase why) []
error_row (error.Refused kind code) = row 1 File (Refused code) Phrase (refusal_phrase kind code) []
error_row error.NothingToCopy = row 1 File (Refused NotFound) Phrase (nothing_phrase Keytab) []
error_row (error.NothingSelected kind) = row 1 Run (Refused NotFound) Phrase (nothing_phrase kind) []
error_row (error.NoTicketIn sought) = row 1 File (Refused NotFound) Phrase (no_ticket_phrase sought) []
error_row (error.NoTickets sought) = row 1 Run (Refused NotFound) Phrase (no_ticket_phrase sought) []
error_row error.OutputNotWritten = row 3 Run (Alone (codes "cannot write output")) Cause [] []
error_row error.OutputIsTerminal = row 3 Run (Alone (codes "cannot write output")) Phrase (codes "the image is for a program; give it a pipe") []
error_row error.ClockNotRead = row 3 Run (Alone (codes "cannot read the clock")) Phrase (codes "the clock is before 1970 or after 2106, or failed") []
error_row error.NoMemory = row 4 Run (Alone (codes "out of memory")) by.Nothing [] (codes "ENOMEM")

-- ---- a row in code

-- what a message says, in code
abbrev pub says_of : Said → Says
says_of (said.Alone text) = Alone text.now
says_of (said.Refused code) = Refused code
says_of (said.Faulty why) = Faulty why
says_of (said.NotOpened why) = NotOpened why
says_of (said.Hidden place) = Hidden place

-- the row in code
abbrev pub row_in : ErrorRow → Row
row_in r = record { status = r.status; subject = r.subject; says = says_of r.said; explains = r.explains; phrase = r.phrase.now; name = r.name.now }
