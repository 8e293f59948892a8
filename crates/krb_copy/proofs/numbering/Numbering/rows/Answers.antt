use Rattle.krb_copy.proofs.ForAnswers.{◌∙◌, sym, ap, subst, List, ◌++◌, ◌+◌, drop, take, map, arith, append-nil, take_all, drop_all, PlacedEntry, IsNumbering, rows_due, shown, drop_here, one_more, take_here}
use Rattle.krb_copy.proofs.numbering.Numbering.rows.Goals as goal

pub entries-preserved : goal.entries-preserved
entries-preserved g c = λ all before rest n.
    let es = c.args.entries.now in
    let i = c.entries.place-index in
    let x : PlacedEntry = c.entries-item.result in
    let was = c.entries.invariant all before rest n in
    let next = subst (λ (xs : List PlacedEntry). IsNumbering all (before ++ take i es) (xs ++ rest) c.entries.self) (drop_here es i x (omega arith) c.entries-item.is) was.1 in
    let row = c.in_ok-row.ensures all (before ++ take i es) (drop (i + 1) es ++ rest) next in (
      ap (λ rs. map shown rs ++ rows_due all (before ++ take (i + 1) es) (drop (i + 1) es)) c.in_ok-push.ensures.items ∙ one_more all before es i x c.entries.rows.items c.in_ok-row.field-0 (omega arith) c.entries-item.is row.0 ∙ was.0,
      subst (λ (xs : List PlacedEntry). IsNumbering all xs (drop (i + 1) es ++ rest) c.row.new.self) (take_here before es i x (omega arith) c.entries-item.is) row.1,
    )

pub returns : goal.returns
returns g c = λ all before rest n.
    let es = c.args.entries.now in
    let i = c.entries.place-index in
    let was = c.entries.invariant all before rest n in
    let taken = take_all i es (omega arith) in
    let dropped = drop_all i es (omega arith) in (
      sym (append-nil (map shown c.entries.rows.items)) ∙ ap (λ (xs : List PlacedEntry). map shown c.entries.rows.items ++ rows_due all (before ++ take i es) xs) (sym dropped) ∙ was.0,
      subst (λ (xs : List PlacedEntry). IsNumbering all (before ++ es) (xs ++ rest) c.entries.self) dropped (subst (λ (xs : List PlacedEntry). IsNumbering all (before ++ xs) (drop i es ++ rest) c.entries.self) taken was.1),
    )
