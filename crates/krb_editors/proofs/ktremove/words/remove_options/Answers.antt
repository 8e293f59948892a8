use Rattle.krb_editors.proofs.ForAnswers.{Result, codes, result_err, SelectionParts, Matched, MistakeParts, v1_order, ◌>>=◌, selection_of, one_spelled, ◌∙◌, Ok, ap}
use Rattle.krb_editors.specs.Ktremove.{Removal, odd_options, of_same, removed_kvno}
use Rattle.krb_editors.proofs.ktremove.words.remove_options.Goals as goal

-- what is asked for, with this selection
abbrev removal_with : Matched → SelectionParts → Removal
removal_with words s = record { selection = of_same (words.flag (codes "same")) s; none_ok = words.flag (codes "none-ok"); dry_run = words.flag (codes "dry-run"); v1_order = v1_order words }

pub returns : goal.returns
returns g c =
    let words = g.M.Matches.matched c.args.matches.now in
    let selection = rw c.in_ok-selection-2.was at c.in_ok-selection.ensures in
    let all = one_spelled (odd_options words) (removed_kvno words) (λ kvno. selection_of kvno words >>= (λ s. Ok (removal_with words s))) _ c.in_ok-refuse_odd_options.ensures c.in_ok-kvno.ensures
    ∙ ap (λ (r : Result SelectionParts MistakeParts). r >>= (λ s. Ok (removal_with words s))) selection in
    (ap result_err all, rw (c.of_same.ensures, c.flag.ensures, c.flag-2.ensures, c.flag-3.ensures, c.v1_order.ensures) all)
