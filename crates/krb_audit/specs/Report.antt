-- The lines that report what a check of a keytab finds.
use Rattle.std.specs.Prelude.{ℕ, zero, suc, ◌/◌, ◌%◌, ◌+◌, List, [], ◌∷◌, ◌++◌, codes, decimal, Bool, not, ◌&&◌, ◌==◌, if◌then◌else◌, Option, None, Some}
use Rattle.std.specs.List.{flat_map}
use Rattle.krb_wire.specs.Names.{name_text}
use Rattle.krb_walk.specs.declared.fault.Fault.{Fault}
use Rattle.krb_keytab.specs.Find.{PlacedEntry}
use Rattle.krb_keytab_text.specs.Listing.{placed_line}
use Rattle.krb_text.specs.FaultLine.{fault_line}
use Rattle.krb_audit.specs.declared.counts.Counts.{Counts}
use Rattle.krb_findings.specs.declared.finding.Finding.TheVariants.{Mode, Missing, Empty, Nostrong, Unwanted}
use Rattle.krb_findings.specs.declared.finding.Finding.{Finding}
use Rattle.krb_findings.specs.declared.finding_set.FindingSet.{FindingSet}
use Rattle.krb_audit.specs.CheckUp.{CheckParts, is_open}
use Rattle.krb_audit.specs.Findings.{Marked, first_for, newest_for}
use Rattle.krb_findings.specs.Table.{findings_about_entries, has, row_of}

-- a number in octal without leading zeros, at most its last `places` digits
abbrev pub octal : ℕ → ℕ → List ℕ
octal zero n = []
octal (suc places) n = if n == 0 then [] else octal places (n / 8) ++ (48 + n % 8) ∷ []

-- the twelve low bits of a mode in octal
abbrev pub mode_digits : ℕ → List ℕ
mode_digits mode = if mode % 0o10000 == 0 then codes "0" else octal 4 (mode % 0o10000)

-- ---- the lines, but for those of the findings that are left out

-- the line of a file's mode, if group or others may read or write the file
abbrev pub mode_line : List ℕ → FindingSet → Option ℕ → List ℕ
mode_line label left_out None = []
mode_line label left_out (Some mode) = if is_open mode && not (has left_out Mode) then label ++ ((row_of Mode).word ++ (codes " " ++ (mode_digits mode ++ codes "\n"))) else []

-- the rest of the line of a finding: the entry's place, the place of an earlier entry if the finding is about one, and the entry
abbrev pub placed_rest : Option ℕ → PlacedEntry → List ℕ
placed_rest None x = placed_line (codes " ") x
placed_rest (Some first) x = codes " " ++ (decimal x.0 ++ placed_line (codes " ") (first, x.1))

-- the line of a finding about an entry, if the finding holds and is not left out
abbrev pub finding_line : List ℕ → FindingSet → Marked → Finding → List ℕ
finding_line label left_out m finding = if has m.1.findings finding && not (has left_out finding) then label ++ ((row_of finding).word ++ placed_rest (first_for m.1 finding) m.0) else []

-- the lines of the findings about an entry
abbrev pub finding_lines : List ℕ → FindingSet → Marked → List ℕ
finding_lines label left_out m = flat_map (finding_line label left_out m) findings_about_entries

-- the newest kvno in the line of a name, if it is given
abbrev pub kvno_rest : Option ℕ → List ℕ
kvno_rest None = []
kvno_rest (Some kvno) = codes " kvno " ++ decimal kvno

-- the line of a finding about the name of an entry, if the finding holds and is not left out
abbrev pub name_line : List ℕ → FindingSet → Finding → Marked → List ℕ
name_line label left_out finding m =
    if has m.1.findings finding && not (has left_out finding)
    then label ++ ((row_of finding).word ++ (kvno_rest (newest_for m.1 finding) ++ (codes " " ++ (name_text m.0.1.principal ++ codes "\n")))) else []

-- the line of a keytab without an entry
abbrev pub empty_line : List ℕ → FindingSet → Bool → List ℕ
empty_line label left_out is_empty = if is_empty && not (has left_out Empty) then label ++ ((row_of Empty).word ++ codes "\n") else []

-- the line of a name that is wanted and missing
abbrev pub missing_line : List ℕ → List ℕ → List ℕ
missing_line label text = label ++ ((row_of Missing).word ++ (codes " " ++ (text ++ codes "\n")))

-- the lines of the names that are wanted and missing
abbrev pub missing_lines : List ℕ → FindingSet → List (List ℕ) → List ℕ
missing_lines label left_out names = if has left_out Missing then [] else flat_map (missing_line label) names

-- the line of the fault of a damaged file, after a label
abbrev pub labelled_fault : List ℕ → Option Fault → List ℕ
labelled_fault label None = []
labelled_fault label (Some fault) = label ++ fault_line (Some fault)

-- the line of counts: entries, bytes of holes, and holes
abbrev pub count_line : List ℕ → Counts → List ℕ
count_line label c =
    label ++ (codes "entries " ++ (decimal c.entries ++ (codes " free " ++ (decimal c.free ++ (codes " holes " ++ (decimal c.holes ++ codes "\n"))))))

-- the lines that report a check, each after a label, but for the findings that are left out
abbrev pub report : List ℕ → FindingSet → CheckParts → List ℕ
report label left_out c =
    mode_line label left_out c.mode
    ++ (flat_map (finding_lines label left_out) c.entries
    ++ (flat_map (name_line label left_out Nostrong) c.entries
    ++ (empty_line label left_out c.is_empty
    ++ (missing_lines label left_out c.missing
    ++ (flat_map (name_line label left_out Unwanted) c.entries ++ (labelled_fault label c.fault ++ count_line label c.counts))))))
