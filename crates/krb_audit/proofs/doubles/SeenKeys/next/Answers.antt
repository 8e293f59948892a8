use Rattle.krb_audit.proofs.ForAnswers.{◌≡◌, ◌∙◌, ◌++◌, ◌∷◌, [], Some, ap, sym, PlacedEntry, RankParts, first_number, mapped_after, rank_of, repeats}
use Rattle.krb_audit.proofs.doubles.SeenKeys.next.Goals as goal

pub returns : goal.returns
returns g c = λ all before rest are.
    let x : PlacedEntry = (c.args.place, c.args.entry.now) in
    let next = c.take-rank.ensures (rank_of all before x) (mapped_after (rank_of all) (before ++ x ∷ []) rest) are.ranks in
    let number : first_number x.1.principal all ≡ Some c.take-rank.result.first = sym (ap (λ (r : RankParts). r.first) next.0) in
    let first = c.in_ok-alike.ensures all before are.firsts number in
    (c.repeats.ensures ∙ ap repeats first.0, record { ranks = next.1; firsts = first.1 })
