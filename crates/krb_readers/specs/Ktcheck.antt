-- What ktcheck does.
use Rattle.std.specs.Prelude.{ℕ, ◌-◌, List, [], length, Bool, true, not, ◌&&◌, ◌||◌, nat_le, nat_lt, if◌then◌else◌, Option, None, Some, Result, Ok, Err}
use Rattle.krb_keytab.specs.Store.{KeytabState}
use Rattle.krb_files.specs.declared.files.Files.{Ghosts}
use Rattle.krb_files.specs.Plan.{Ends}
use Rattle.krb_findings.specs.declared.finding_set.FindingSet.{FindingSet}
use Rattle.krb_audit.specs.CheckUp.{CheckParts, checked, findings_of, is_wrong, uncounted}
use Rattle.krb_audit.specs.Findings.{CheckAsked}
use Rattle.krb_audit.specs.Report.{report}
use Rattle.krb_findings.specs.declared.finding.Finding.TheVariants.{Nostrong}
use Rattle.krb_findings.specs.Table.{has, joined, none, without}
use Rattle.krb_json.specs.Check.{check_json_text, refused_json_text}
use Rattle.krb_driver.specs.declared.command.RunEnd.{RunEnd}
use Rattle.krb_driver.specs.declared.command.World.{World}
use Rattle.krb_driver.specs.declared.error.RunError.{RunError}
use Rattle.krb_driver.specs.declared.error.RunError.TheVariants.{ClockNotRead, NoMemory}
use Rattle.krb_driver.specs.declared.file_name.FileName.{FileName}
use Rattle.krb_driver.specs.declared.verdict.Verdict.{Verdict}
use Rattle.krb_driver.specs.declared.verdict.Verdict.TheVariants.{Found}
use Rattle.krb_driver.specs.Commands.{CommandPlan, Displays, Effect, EndsBefore, Fails, Page, text, tries}
use Rattle.krb_driver.specs.Composing.{output_page}
use Rattle.krb_driver.specs.Loading.{keytab_in}
use Rattle.krb_driver.specs.RunErrors.{Ending, error_status, said_of_file, verdict_status}
use Rattle.krb_driver.specs.Several.{RunsOver, first_round, label_of}
use Rattle.krb_readers.specs.declared.file_page.FilePage.{FilePage}
use Rattle.krb_readers.specs.declared.file_page.FilePage.TheVariants as page
use Rattle.krb_readers.specs.declared.ktcheck.page.CheckObject.{CheckObject}
use Rattle.krb_readers.specs.KtcheckWords.{KeytabCheck}

-- ---- a file

-- the findings that ktcheck leaves out: with `-q` those that do not count for the status
abbrev pub left_out : KeytabCheck → CheckParts → FindingSet
left_out o c = if o.quiet then uncounted c.mode o.allowed else none

-- ktcheck prints nothing of a file: with `-q`, if nothing is wrong
abbrev pub is_silent : KeytabCheck → CheckParts → Bool
is_silent o c = o.quiet && not (is_wrong o.allowed c)

-- the verdict of ktcheck on a file: the findings that are yet to be explained, and whether something is wrong that is not allowed
abbrev pub found_verdict : KeytabCheck → FindingSet → CheckParts → Verdict
found_verdict o explained c =
    Found (record { words = without (findings_of c) (joined (left_out o c) explained); weak_etypes = c.weak_etypes; lacks_strong = has (findings_of c) Nostrong; fault = c.fault; is_wrong = is_wrong o.allowed c; v1_order = o.v1_order })

-- what a check is asked by the options of ktcheck and the time by which entries are aged
abbrev pub asked : KeytabCheck → Option ℕ → CheckAsked
asked o by = record { aged_by = by; wanted = o.wanted; only = o.only }

-- what ktcheck finds in a keytab, by its options, the time by which entries are aged and the mode of the file
abbrev pub found : KeytabCheck → Option ℕ → Option ℕ → KeytabState → CheckParts
found o by mode k = checked mode (asked o by) k

-- the lines of ktcheck for a file, each after a label
abbrev pub lines_of : KeytabCheck → List ℕ → CheckParts → List ℕ
lines_of o label c = if is_silent o c then [] else report label (left_out o c) c

-- what ktcheck prints of a keytab as one JSON object, which has all findings
abbrev pub object_page : KeytabCheck → FindingSet → List ℕ → CheckParts → Page
object_page o explained file c = record {
  out = if is_silent o c then [] else check_json_text file c (verdict_status (found_verdict o explained c));
  ending = Ok (found_verdict o explained c);
  takes = true;
}

-- what ktcheck prints of a keytab: a JSON object, or lines
abbrev pub page_of : KeytabCheck → Bool → FindingSet → List ℕ → CheckParts → Page
page_of o are_several explained file c = if o.json then object_page o explained file c else text (lines_of o (label_of (o.with_filename || are_several) file) c) (found_verdict o explained c)

-- what ktcheck prints with `--json` of a file that gave no keytab
abbrev pub refused_page : List ℕ → RunError → Page
refused_page file why = record { out = refused_json_text file (said_of_file why) (error_status why); ending = Err why; takes = true }

-- what an error of a file comes to: with `--json` an object for the file, unless memory ran out
abbrev pub refused_effect : Bool → List ℕ → RunError → Effect
refused_effect json file NoMemory = Fails file NoMemory
refused_effect json file why = if json then Displays file (refused_page file why) else Fails file why

-- the page that a file shows, in code, if `object` is that of its object
abbrev pub file_page : {A O : Type 0} → (O → List ℕ → Page) → FilePage A O → List ℕ → Page
file_page object (page.Lines output) file = output_page output
file_page object (page.Object o) file = object o file
file_page object (page.Refused why) file = refused_page file why

-- that of a keytab
abbrev pub check_page : {A B : Type 0} → CheckObject A B → List ℕ → Page
check_page j file = object_page j.options.now j.explained file (found j.options.now j.aged_by j.mode j.keytab.state)

-- the plan of ktcheck for a file: it is opened as a keytab, and what is found is printed
abbrev pub plan_of : KeytabCheck → Option ℕ → Bool → FindingSet → FileName → Option ℕ → CommandPlan
plan_of o aged_by are_several explained file mode =
    tries file (keytab_in o.v1_order)
    (λ k. Ends (Displays file.name.now (page_of o are_several explained file.name.now (found o aged_by mode k))))
    (λ why. Ends (refused_effect o.json file.name.now why))

-- ---- several files

-- the findings that the end of a file's check explains
abbrev pub explained_by : Ending → FindingSet
explained_by (Ok (Found findings)) = findings.words
explained_by ending = none

-- the findings that are explained once the check of one file more has ended
abbrev pub explained_after : FindingSet → RunEnd → FindingSet
explained_after explained end = joined explained (explained_by end.ending)

-- the second by which entries are aged: the clock less the age, if `--older` gives one and the clock is not below it; an age needs the clock
abbrev pub aged_by : Option ℕ → Option ℕ → Result (Option ℕ) RunError
aged_by None now = Ok None
aged_by (Some seconds) None = Err ClockNotRead
aged_by (Some seconds) (Some now) = Ok (if nat_le seconds now then Some (now - seconds) else None)

module _ {F R W E : Type 0} (trait : Ghosts F) (o : KeytabCheck) (old new : World F R W E) (status : ℕ) (names : List FileName) where
  -- a run of ktcheck over files `names` took the world from `old` to `new`, and the greatest status counts
  pub record ChecksBy (by : Option ℕ) : Type 0 where
    pub explained : FindingSet
    pub over : RunsOver trait (plan_of o by (nat_lt 1 (length names))) explained_after names (first_round none old) (record { world = new; state = explained; status = status })

  -- a run of ktcheck, or an error before it, if the clock is needed and was not read
  abbrev pub ChecksWith : Result (Option ℕ) RunError → Type 0
  ChecksWith (Ok by) = ChecksBy by
  ChecksWith (Err why) = EndsBefore trait old new status why
