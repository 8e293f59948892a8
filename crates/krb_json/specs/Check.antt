-- A check of a keytab as a JSON value, and as its text.
use Rattle.std.specs.Prelude.{ℕ, List, [], ◌∷◌, ◌++◌, map, codes, Bool, if◌then◌else◌, Option, None, Some}
use Rattle.std.specs.List.{flat_map}
use Rattle.json.specs.Json.{Json, null, string}
use Rattle.krb_wire.specs.Names.{name_text}
use Rattle.krb_wire.specs.Spelling.{Parts}
use Rattle.krb_keytab.specs.Find.{PlacedEntry}
use Rattle.krb_audit.specs.declared.counts.Counts.{Counts}
use Rattle.krb_findings.specs.declared.finding.Finding.{Finding}
use Rattle.krb_findings.specs.declared.finding.Finding.TheVariants.{Mode, Missing, Empty, Nostrong, Unwanted}
use Rattle.krb_audit.specs.CheckUp.{CheckParts, has_mode, is_open}
use Rattle.krb_audit.specs.Findings.{Marked, first_for, newest_for}
use Rattle.krb_audit.specs.Report.{mode_digits}
use Rattle.krb_findings.specs.Table.{findings_about_entries, has, row_of}
use Rattle.krb_json.specs.Escaped.{json_text}
use Rattle.krb_json.specs.Members.{Member, object_of, array_of, number_of, text_member, fault_value, optional}

-- a mode in octal as JSON, or null
abbrev pub mode_value : Option ℕ → Json
mode_value None = null
mode_value (Some mode) = string (mode_digits mode)

-- what the JSON of a check has before the findings: the file, its mode, its entries and holes
unfoldable pub check_members : List ℕ → Option ℕ → Counts → List Member
check_members file mode counts =
    (codes "file", string file)
    ∷ (codes "mode", mode_value mode)
    ∷ (codes "entries", number_of counts.entries)
    ∷ (codes "free", number_of counts.free)
    ∷ (codes "holes", number_of counts.holes)
    ∷ []

-- a finding as JSON: its word, and what its line has more
abbrev pub finding_value : Finding → List Member → Json
finding_value finding ms = object_of ((codes "finding", string (row_of finding).word) ∷ ms)

-- a finding about the file as JSON, if it holds
abbrev pub file_findings : Bool → Finding → List Json
file_findings holds finding = if holds then finding_value finding [] ∷ [] else []

-- the entry that a finding is about, and the place of the earlier one that it is like, if there is one
unfoldable pub about_members : Option ℕ → PlacedEntry → List Member
about_members first x =
    (codes "place", number_of x.0)
    ∷ (optional (codes "first") first
    ++ ((codes "kvno", number_of x.1.version) ∷ (codes "etype", number_of x.1.enctype) ∷ text_member (codes "principal") (name_text x.1.principal) ∷ []))

-- a finding about an entry as JSON, if it holds
abbrev pub entry_finding : Marked → Finding → List Json
entry_finding m finding = if has m.1.findings finding then finding_value finding (about_members (first_for m.1 finding) m.0) ∷ [] else []

-- what is found about an entry
abbrev pub entry_findings : Marked → List Json
entry_findings m = flat_map (entry_finding m) findings_about_entries

-- the name that a finding is about, and its newest kvno, if it is given
unfoldable pub name_members : Option ℕ → Parts → List Member
name_members kvno name = optional (codes "kvno") kvno ++ (text_member (codes "principal") (name_text name) ∷ [])

-- a finding about the name of an entry as JSON, if it holds
abbrev pub name_finding : Finding → Marked → List Json
name_finding finding m = if has m.1.findings finding then finding_value finding (name_members (newest_for m.1 finding) m.0.1.principal) ∷ [] else []

-- a name that is wanted and missing as JSON
abbrev pub missing_value : List ℕ → Json
missing_value name = finding_value Missing (text_member (codes "principal") name ∷ [])

-- the findings of a check as JSON, in the order of lines
abbrev pub finding_values : CheckParts → List Json
finding_values c =
    file_findings (has_mode is_open c.mode) Mode
    ++ (flat_map entry_findings c.entries
    ++ (flat_map (name_finding Nostrong) c.entries
    ++ (file_findings c.is_empty Empty ++ (map missing_value c.missing ++ flat_map (name_finding Unwanted) c.entries))))

-- a check of a keytab as JSON, with the name of its file and its status
unfoldable pub check_value : List ℕ → CheckParts → ℕ → Json
check_value file c status =
    object_of (
    check_members file c.mode c.counts
    ++ ((codes "findings", array_of (finding_values c)) ∷ (codes "fault", fault_value c.fault) ∷ optional (codes "status") (Some status))
    )

-- the line that ktcheck --json prints of a keytab
abbrev pub check_json_text : List ℕ → CheckParts → ℕ → List ℕ
check_json_text file c status = json_text (check_value file c status) ++ codes "\n"

-- a file that ktcheck could not check as JSON: its name, the error and the status
unfoldable pub refused_value : List ℕ → List ℕ → ℕ → Json
refused_value file error status =
    object_of ((codes "file", string file) ∷ text_member (codes "error") error ∷ (codes "status", number_of status) ∷ [])

-- the line that ktcheck --json prints of a file that it could not check
abbrev pub refused_json_text : List ℕ → List ℕ → ℕ → List ℕ
refused_json_text file error status = json_text (refused_value file error status) ++ codes "\n"
