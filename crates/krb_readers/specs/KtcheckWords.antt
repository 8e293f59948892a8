-- What the words of ktcheck ask for.
use Rattle.std.specs.Prelude.{ℕ, List, length, codes, Bool, true, ◌&&◌, ◌==◌, if◌then◌else◌, Option, None, Some, ok_or, option_map, Result, Ok, fold}
use Rattle.std.specs.List.{find}
use Rattle.std.specs.Str.{bytes_eq}
use Rattle.krb_wire.specs.declared.format.Order.{Order}
use Rattle.krb_findings.specs.declared.finding.Finding.{Finding}
use Rattle.krb_findings.specs.declared.finding_set.FindingSet.{FindingSet}
use Rattle.krb_findings.specs.Table.{all_findings, joined, none, only_if, row_of}
use Rattle.krb_driver.specs.Loading.{result_map}
use Rattle.krb_driver.specs.Mistakes.{Matched, MistakeParts, first_value, goes_with, no_finding, twice, v1_order}
use Rattle.krb_driver.specs.Spelled.{◌>>=◌, ◌>>◌, each, printed_name, spelled_seconds}

-- what ktcheck is asked for: the byte order of version 1 keytabs, `-q`, `--json` and `-H`, the findings that are allowed, the age of `--older`, the names of `--want`, and `--only`
pub record KeytabCheck : Type 0 where
  pub v1_order : Order
  pub quiet : Bool
  pub json : Bool
  pub with_filename : Bool
  pub allowed : FindingSet
  pub older : Option ℕ
  pub wanted : List (List ℕ)
  pub only : Bool

-- the finding with that word
abbrev pub finding : List ℕ → Option Finding
finding word = find (λ f. bytes_eq (row_of f).word word) all_findings

-- the findings that a word spells: that one
abbrev pub spelled_finding : List ℕ → Result FindingSet MistakeParts
spelled_finding word = ok_or (option_map (only_if true) (finding word)) (no_finding word)

-- the findings that words spell
abbrev pub spelled_findings : List (List ℕ) → Result FindingSet MistakeParts
spelled_findings words = result_map (fold joined none) (each spelled_finding words)

-- `--only` without `--want`
abbrev pub odd_only : Matched → Option MistakeParts
odd_only words = if words.flag (codes "only") && length (words.values (codes "want")) == 0 then Some (goes_with (codes "--only") (codes "--want")) else None

-- what the words of ktcheck ask for, or their first mistake
abbrev pub keytab_check_of : Matched → Result KeytabCheck MistakeParts
keytab_check_of words = do
  twice words (codes "older") (codes "--older") (codes "--older")
  odd_only words
  allowed ← spelled_findings (words.values (codes "allow"))
  older ← spelled_seconds (first_value words (codes "older"))
  wanted ← each printed_name (words.values (codes "want"))
  Ok (record {
    v1_order = v1_order words;
    quiet = words.flag (codes "quiet");
    json = words.flag (codes "json");
    with_filename = words.flag (codes "with-filename");
    allowed = allowed;
    older = older;
    wanted = wanted;
    only = words.flag (codes "only");
  })
