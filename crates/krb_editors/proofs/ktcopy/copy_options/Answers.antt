use Rattle.krb_editors.proofs.ForAnswers.{codes, option_map, result_err, SelectionParts, Matched, first_value, v1_order, ◌>>=◌, CopyParts, copied_kvnos, odd_options, selection_of, spelled_new_name, one_spelled, two_spelled, ◌∙◌, ℕ, Ok, Option, ap, err_from_is_err_and}
use Rattle.krb_wire.specs.Reading.{principal_parts}
use Rattle.krb_wire.specs.Spelling.{Parts}
use Rattle.krb_driver.proofs.Spelled.{no_mistake}
use Rattle.krb_editors.proofs.ktcopy.copy_options.Goals as goal

-- what is asked for, with this version of the copies, this selection and this name
abbrev copies_with : Matched → Option ℕ → SelectionParts → Option Parts → CopyParts
copies_with words kvno s name = record { selection = s; new = record { name = name; kvno = kvno }; replace = words.flag (codes "replace"); dry_run = words.flag (codes "dry-run"); v1_order = v1_order words }

pub returns-in_err-selection-2 : goal.returns-in_err-selection-2
returns-in_err-selection-2 g c =
    let p = err_from_is_err_and c.from_residual-in_err-selection-2.result c.from_residual-in_err-selection-2.ensures.1 in
    let words = g.M.Matches.matched c.args.matches.now in
    let name = spelled_new_name (first_value words (codes "as")) in
    rw (p.1, p.2) (ap result_err (one_spelled (odd_options words) (copied_kvnos words) (λ ks. selection_of ks.0 words >>= (λ s. name >>= (λ n. Ok (copies_with words ks.1 s n)))) _ c.in_ok-refuse_odd_options.ensures c.in_ok-kvno.ensures)
    ∙ two_spelled (selection_of c.in_ok-kvno.kvno words) name (copies_with words c.in_ok-kvno.new_kvno)
    (no_mistake (λ s. s) _ c.in_ok-selection.selection c.in_ok-selection.ensures) (no_mistake (option_map principal_parts) _ c.in_ok-new_name.new_name c.in_ok-new_name.ensures))
