use Rattle.krb_copy.proofs.Cited.{◌∙◌, [], ap, sym, subst, ◌++◌, map, append-nil, List, PlacedEntry, name_texts, IsNumbering, shown}
use Rattle.krb_copy.proofs.diff.diff_text.Goals as goal

pub returns : goal.returns
returns g c =
    let ours = c.args.ours.now in
    let others = c.args.others.now in
    let all = ours ++ others in
    let start = c.new-numbering.ensures all (c.left.ensures (name_texts all) c.in_ok-texts.ensures) in
    let first = c.in_ok-our_rows.ensures all [] others start in
    let second = c.in_ok-other_rows.ensures all ours [] (subst (λ (xs : List PlacedEntry). IsNumbering all ours xs c.rows.new.self) (sym (append-nil others)) first.1) in
    c.text_of.ensures ours others (c.count.ensures ∙ second.1.count) (ap (map shown) c.deref.ensures.value ∙ first.0) (ap (map shown) c.deref-2.ensures.value ∙ second.0)
