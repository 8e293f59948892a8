-- What ktcopy does.
use Rattle.std.specs.Prelude.{ℕ, Bool, true, false, not, List, ◌&&◌, ◌||◌, length, ◌==◌, if◌then◌else◌, codes, Option, None, Some, Result, Ok, Err}
use Rattle.std.specs.Option.{option_or}
use Rattle.krb_wire.specs.declared.format.Order.{Order}
use Rattle.krb_keytab.specs.Find.{PlacedEntry}
use Rattle.krb_keytab.specs.Store.{image_of}
use Rattle.krb_copy.specs.Copying.{NewParts, Run, asked_as, copy_run, has_lines}
use Rattle.krb_audit.specs.declared.selection.SelectedKvno.{SelectedKvno}
use Rattle.krb_audit.specs.declared.selection.SelectedKvno.TheVariants.{Any, Newest}
use Rattle.krb_audit.specs.Findings.{hides_added}
use Rattle.krb_audit.specs.Selection.{SelectionParts, selected_in}
use Rattle.krb_driver.specs.declared.error.RunError.TheVariants.{NothingToCopy, Refused}
use Rattle.krb_driver.specs.declared.verdict.FileKind.TheVariants.{Keytab}
use Rattle.krb_driver.specs.declared.verdict.Verdict.TheVariants.{Clashed, Well}
use Rattle.krb_driver.specs.declared.file_name.FileName.{FileName}
use Rattle.krb_driver.specs.Commands.{Ends, CommandPlan, Effect, Displays, Fails, holds, opens, saves_unless, text}
use Rattle.krb_driver.specs.Mistakes.{Matched, first_value, twice, v1_order, MistakeParts, only_with_one}
use Rattle.krb_driver.specs.Spelled.{◌>>=◌, ◌>>◌}
use Rattle.krb_driver.specs.Loading.{whole_in, whole_or_empty}
use Rattle.krb_driver.specs.RunErrors.{Code, hiding}
use Rattle.krb_editors.specs.Selecting.{is_given, is_of_any, one_name_given, selection_of, spelled_kvno, spelled_new_kvno, spelled_new_name}

-- what ktcopy is asked for: which entries, what copies get in place of their own, whether they replace others, whether they are only listed, and the byte order of version 1 keytabs
pub record CopyParts : Type 0 where
  pub selection : SelectionParts
  pub new : NewParts
  pub replace : Bool
  pub dry_run : Bool
  pub v1_order : Order

-- a selection is of any kvno
abbrev pub is_any_kvno : SelectedKvno → Bool
is_any_kvno Any = true
is_any_kvno kvno = false

-- a selection of ktcopy is of some names, kvnos or enctypes
abbrev pub asks_for_some : SelectionParts → Bool
asks_for_some s = not (is_of_any s) || not (is_any_kvno s.kvno)

-- ktcopy was asked for some entries, and none is selected
abbrev pub finds_none : SelectionParts → List PlacedEntry → Bool
finds_none s xs = (length xs == 0) && asks_for_some s

-- what ktcopy does after its run: it prints the lines, and saves TO if something was copied; after a clash it saves nothing, and prints the clashes, in a dry run all lines
abbrev pub copied_effect : CopyParts → List ℕ → Result Run Code → Effect
copied_effect o to (Err code) = Fails to (Refused Keytab code)
copied_effect o to (Ok run) =
    if has_lines run.clashes then Displays to (text (if o.dry_run then run.text else run.clashes) (Clashed o.replace))
    else (if has_lines run.text then saves_unless o.dry_run to (image_of run.keytab) run.text (hiding (hides_added run.keytab run.places) Well) else Displays to (text run.text Well))

-- ktcopy holds TO, unless it is a dry run, opens it, and copies entries into its keytab, with a new name and version if these are given
abbrev pub copies_to : CopyParts → FileName → List PlacedEntry → CommandPlan
copies_to o to xs = holds (not o.dry_run) to (opens to (whole_or_empty o.v1_order to.in_place) (λ k. Ends (copied_effect o to.name.now (copy_run o.replace (asked_as o.new xs) k))))

-- ktcopy copies the entries of FROM to TO, unless some are asked for and none is selected
abbrev pub copies_from : CopyParts → FileName → FileName → List PlacedEntry → CommandPlan
copies_from o from to xs = if finds_none o.selection xs then Ends (Fails from.name.now NothingToCopy) else copies_to o to xs

-- the plan of ktcopy: FROM is opened, and its selected entries are copied to TO
abbrev pub ktcopy_plan : CopyParts → FileName → FileName → CommandPlan
ktcopy_plan o from to = opens from (whole_in o.v1_order) (λ k. copies_from o from to (selected_in o.selection 0 k))

-- ---- what the words ask for

-- a new name is given, and not just one name to copy
abbrev pub odd_new_name : Matched → Option MistakeParts
odd_new_name words = if is_given words (codes "as") && not (one_name_given words) then Some (only_with_one (codes "--as") (codes "-p")) else None

-- a new version is given, and not just one name and version to copy
abbrev pub odd_new_kvno : Matched → Option MistakeParts
odd_new_kvno words =
    if is_given words (codes "as-kvno") && not (one_name_given words && is_given words (codes "kvno")) then Some (only_with_one (codes "--as-kvno") (codes "-p and -k")) else None

-- the first mistake in which options are given
abbrev pub odd_options : Matched → Option MistakeParts
odd_options words =
    option_or (twice words (codes "kvno") (codes "-k") (codes "--kvno"))
    (option_or (twice words (codes "as") (codes "--as") (codes "--as"))
    (option_or (twice words (codes "as-kvno") (codes "--as-kvno") (codes "--as-kvno"))
    (option_or (odd_new_name words) (odd_new_kvno words))))

-- the kvnos that `-k` selects, and the one of the copies that `--as-kvno` spells
abbrev pub copied_kvnos : Matched → Result (SelectedKvno × Option ℕ) MistakeParts
copied_kvnos words = do
  kvno ← spelled_kvno (codes "new") Newest (first_value words (codes "kvno"))
  new_kvno ← spelled_new_kvno (first_value words (codes "as-kvno"))
  Ok (kvno, new_kvno)

-- what the words of ktcopy ask for, or their first mistake
abbrev pub copy_of : Matched → Result CopyParts MistakeParts
copy_of words = do
  odd_options words
  kvnos ← copied_kvnos words
  selection ← selection_of kvnos.0 words
  new_name ← spelled_new_name (first_value words (codes "as"))
  Ok (record { selection = selection; new = record { name = new_name; kvno = kvnos.1 }; replace = words.flag (codes "replace"); dry_run = words.flag (codes "dry-run"); v1_order = v1_order words })
