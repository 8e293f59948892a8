use Rattle.krb_copy.proofs.Cited.{[], ◌++◌, false, get_or}
use Rattle.krb_copy.proofs.DiffLines.{all_lines, numbers_below}
use Rattle.krb_copy.proofs.diff.text_of.Goals as goal

pub returns : goal.returns
returns g c = λ xs ys is of_ours of_others.
    let all = xs ++ ys in
    let below = numbers_below c.args.len all [] xs c.args.ours.now is of_ours in
    let below_too = numbers_below c.args.len all xs ys c.args.others.now is of_others in
    let marks = c.in_ok-marks.ensures below below_too in
    let our_keys = c.in_ok-our_keys.our_keys in
    let other_keys = c.in_ok-other_keys.other_keys in
    rw (c.in_ok-append_others.ensures, c.in_ok-append_ours.ensures, c.new-out.ensures.items, c.deref.ensures.value)
    (all_lines xs ys c.args.ours.now c.args.others.now our_keys other_keys (λ n. get_or c.in_ok-marks.marks.items n false) of_ours of_others (c.in_ok-our_keys.ensures below) (c.in_ok-other_keys.ensures below_too) marks)
