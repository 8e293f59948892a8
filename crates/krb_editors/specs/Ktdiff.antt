-- What ktdiff does.
use Rattle.std.specs.Prelude.{ℕ, List, [], ◌∷◌, Bool, not, ◌&&◌, ◌==◌, length, if◌then◌else◌, Result, Ok}
use Rattle.krb_wire.specs.declared.format.Order.{Order}
use Rattle.krb_keytab.specs.Find.{PlacedEntry}
use Rattle.krb_keytab.specs.Store.{KeytabState}
use Rattle.krb_copy.specs.Diff.{diff_text}
use Rattle.krb_audit.specs.declared.selection.SelectedKvno.TheVariants.{Any}
use Rattle.krb_audit.specs.Selection.{SelectionParts, selected_in}
use Rattle.krb_driver.specs.declared.error.RunError.TheVariants.{NothingToCopy}
use Rattle.krb_driver.specs.declared.verdict.Verdict.{Verdict}
use Rattle.krb_driver.specs.declared.verdict.Verdict.TheVariants.{Differ, Well}
use Rattle.krb_driver.specs.declared.file_name.FileName.{FileName}
use Rattle.krb_driver.specs.Commands.{Ends, CommandPlan, Effect, Displays, Fails, opens, text}
use Rattle.krb_driver.specs.Loading.{whole_in}
use Rattle.krb_driver.specs.Mistakes.{Matched, MistakeParts, v1_order}
use Rattle.krb_driver.specs.Spelled.{◌>>=◌}
use Rattle.krb_editors.specs.Selecting.{is_of_any, selection_of}

-- what ktdiff is asked for: which entries, and the byte order of version 1 keytabs
pub record Comparison : Type 0 where
  pub selection : SelectionParts
  pub v1_order : Order

-- the verdict of ktdiff: the keytabs differ if a line is printed
abbrev pub verdict_of : List ℕ → Verdict
verdict_of [] = Well
verdict_of (b ∷ others) = Differ

-- ktdiff was asked for some entries, and none is selected in A or in B
abbrev pub finds_none : SelectionParts → List PlacedEntry → List PlacedEntry → Bool
finds_none s xs ys = not (is_of_any s) && ((length xs == 0) && (length ys == 0))

-- ktdiff compares two keytabs by their selected entries
abbrev pub differs : Comparison → List ℕ → KeytabState → KeytabState → Effect
differs o ours k j =
    let xs : List PlacedEntry = selected_in o.selection 0 k in
    let ys : List PlacedEntry = selected_in o.selection 0 j in
    if finds_none o.selection xs ys then Fails ours NothingToCopy else Displays ours (text (diff_text xs ys) (verdict_of (diff_text xs ys)))

-- ktdiff opens B and compares its keytab with that of A
abbrev pub diffs_from : Comparison → FileName → FileName → KeytabState → CommandPlan
diffs_from o ours others k = opens others (whole_in o.v1_order) (λ j. Ends (differs o ours.name.now k j))

-- the plan of ktdiff: A is opened, then B, and their keytabs are compared
abbrev pub ktdiff_plan : Comparison → FileName → FileName → CommandPlan
ktdiff_plan o ours others = opens ours (whole_in o.v1_order) (diffs_from o ours others)

-- ---- what the words ask for

-- what the words of ktdiff ask for, or their first mistake
abbrev pub comparison_of : Matched → Result Comparison MistakeParts
comparison_of words = do
  selection ← selection_of Any words
  Ok (record { selection = selection; v1_order = v1_order words })
