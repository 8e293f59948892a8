-- What ktremove does.
use Rattle.std.specs.Prelude.{ℕ, Bool, true, false, not, List, [], ◌++◌, ◌&&◌, ◌||◌, map, length, ◌==◌, if◌then◌else◌, codes, Option, None, Some, ok_or, Result, Ok}
use Rattle.std.specs.List.{flat_map, list_any}
use Rattle.std.specs.Option.{option_or}
use Rattle.std.specs.Str.{bytes_eq}
use Rattle.krb_keytab.specs.Changes.{without}
use Rattle.krb_keytab.specs.Find.{PlacedEntry, placed_entries}
use Rattle.krb_keytab.specs.Store.{KeytabState, image_of}
use Rattle.krb_keytab_text.specs.Listing.{removed_line}
use Rattle.krb_wire.specs.declared.format.Order.{Order}
use Rattle.krb_audit.specs.declared.selection.SelectedKvno.{SelectedKvno}
use Rattle.krb_audit.specs.declared.selection.SelectedKvno.TheVariants.{Beyond, Exactly}
use Rattle.krb_audit.specs.Selection.{SelectionParts, selected_in, is_named, needs_clock}
use Rattle.krb_driver.specs.declared.error.RunError.TheVariants.{ClockNotRead}
use Rattle.krb_driver.specs.declared.verdict.FileKind.TheVariants.{Keytab}
use Rattle.krb_driver.specs.declared.verdict.Verdict.{Verdict}
use Rattle.krb_driver.specs.declared.verdict.Verdict.TheVariants.{Well, NothingToRemove, Without}
use Rattle.krb_driver.specs.declared.error.RunError.{RunError}
use Rattle.krb_driver.specs.declared.file_name.FileName.{FileName}
use Rattle.krb_driver.specs.Commands.{Ends, CommandPlan, Effect, Displays, holds, opens, saves_unless, text}
use Rattle.krb_driver.specs.Mistakes.{Matched, first_value, twice, typed, v1_order, MistakeParts, does_not_go_with, nothing_selects, only_with}
use Rattle.krb_driver.specs.Spelled.{◌>>=◌, ◌>>◌, spelled_count, spelled_seconds}
use Rattle.krb_driver.specs.Loading.{whole_in}
use Rattle.krb_driver.specs.Several.{label_of}
use Rattle.krb_editors.specs.Selecting.{is_given, is_of_any, names_given, selection_of, spelled_kvno}

-- what ktremove is asked for: which entries, whether it is no failure if there are none, whether they are only listed, and the byte order of version 1 keytabs
pub record Removal : Type 0 where
  pub selection : SelectionParts
  pub none_ok : Bool
  pub dry_run : Bool
  pub v1_order : Order

-- kvnos are selected beyond the newest ones
abbrev pub is_beyond : SelectedKvno → Bool
is_beyond (Beyond keep age) = true
is_beyond kvno = false

-- one kvno is selected
abbrev pub is_exact : SelectedKvno → Bool
is_exact (Exactly version) = true
is_exact kvno = false

-- what is selected may have been removed before: kvnos beyond the newest ones, or doubles, if no name, enctype or kvno is given beside them, or an entry has these
abbrev pub may_be_gone : SelectionParts → Bool → Bool
may_be_gone s has_named = (s.only_same || is_beyond s.kvno) && ((is_of_any s && not (is_exact s.kvno)) || has_named)

-- the verdict of ktremove if no entry of a file is selected: all is well if that is no failure; else `refused 9`, reported at the end of several files
abbrev pub none_verdict : Bool → Removal → Bool → Verdict
none_verdict are_several o has_named =
    if o.none_ok || may_be_gone o.selection has_named then Well else (if are_several then Without else NothingToRemove Keytab)

-- what ktremove does with a keytab: the entries xs are removed, if there are any, and a line is printed for each
abbrev pub removes : Removal → Bool → List ℕ → KeytabState → List PlacedEntry → Effect
removes o are_several file k xs =
    if length (map (λ x. x.0) xs) == 0 then Displays file (text [] (none_verdict are_several o (list_any (λ x. is_named o.selection x.1) (placed_entries k))))
    else saves_unless o.dry_run file (image_of (without k (map (λ x. x.0) xs))) (flat_map (λ x. label_of are_several file ++ removed_line x) xs) Well

-- the plan of ktremove for a file, one of several or not: the file is held, unless it is a dry run, and opened as a keytab; the selected entries are removed
abbrev pub ktremove_plan : Removal → ℕ → Bool → FileName → CommandPlan
ktremove_plan o now are_several file =
    holds (not o.dry_run) file (opens file (whole_in o.v1_order) (λ k. Ends (removes o are_several file.name.now k (selected_in o.selection now k))))

-- the second by which kvnos are selected: that of the clock if an age is given, and otherwise 0
abbrev pub needed_time : SelectedKvno → Option ℕ → Result ℕ RunError
needed_time kvno now = if needs_clock kvno then ok_or now ClockNotRead else Ok 0

-- ---- what the words ask for

-- the word is `old`
abbrev pub is_old_word : Option (List ℕ) → Bool
is_old_word None = false
is_old_word (Some word) = bytes_eq word (codes "old")

-- `--keep` is given beside `-k`
abbrev pub odd_keep : Matched → Option MistakeParts
odd_keep words = if is_given words (codes "keep") && is_given words (codes "kvno") then Some (does_not_go_with (codes "--keep") (typed words (codes "-k") (codes "--kvno"))) else None

-- an age goes with another selection than kvnos beyond the newest ones
abbrev pub odd_age : Matched → Option MistakeParts
odd_age words =
    if is_given words (codes "age") && (not (is_given words (codes "keep")) && not (is_old_word (first_value words (codes "kvno"))))
    then Some (only_with (codes "--age") (codes "-k old or --keep")) else None

-- kvnos or doubles are asked for
abbrev pub versions_given : Matched → Bool
versions_given words = is_given words (codes "kvno") || (is_given words (codes "keep") || words.flag (codes "same"))

-- nothing selects
abbrev pub unselected : Matched → Option MistakeParts
unselected words =
    if names_given words (codes "principal") || (versions_given words || is_given words (codes "enctype")) then None
    else Some (nothing_selects (codes "-p, --match, -k, -e, --keep or --same"))

-- the first mistake in which options are given
abbrev pub odd_options : Matched → Option MistakeParts
odd_options words =
    option_or (twice words (codes "kvno") (codes "-k") (codes "--kvno"))
    (option_or (twice words (codes "keep") (codes "--keep") (codes "--keep"))
    (option_or (twice words (codes "age") (codes "--age") (codes "--age"))
    (option_or (odd_keep words) (option_or (odd_age words) (unselected words)))))

-- the kvnos beyond the newest ones with an age: as many as `--keep` says; or those of the word of `-k`, which may be `old`
abbrev pub kvno_with : Option ℕ → Option ℕ → Option (List ℕ) → Result SelectedKvno MistakeParts
kvno_with age (Some keep) word = Ok (Beyond keep age)
kvno_with age None word = spelled_kvno (codes "old") (Beyond 1 age) word

-- the kvnos that `-k`, `--keep` and `--age` select
abbrev pub removed_kvno : Matched → Result SelectedKvno MistakeParts
removed_kvno words = do
  age ← spelled_seconds (first_value words (codes "age"))
  keep ← spelled_count (first_value words (codes "keep"))
  kvno_with age keep (first_value words (codes "kvno"))

-- a selection of doubles alone, or not
abbrev pub of_same : Bool → SelectionParts → SelectionParts
of_same only_same s = record s { only_same = only_same }

-- what the words of ktremove ask for, or their first mistake
abbrev pub removal_of : Matched → Result Removal MistakeParts
removal_of words = do
  odd_options words
  kvno ← removed_kvno words
  selection ← selection_of kvno words
  Ok (record { selection = of_same (words.flag (codes "same")) selection; none_ok = words.flag (codes "none-ok"); dry_run = words.flag (codes "dry-run"); v1_order = v1_order words })
