use Rattle.krb_audit.proofs.ForAnswers.{◌≡◌, arith, length, next_ranked, rank_row}
use Rattle.krb_audit.proofs.ranks.ranks_of.Goals as goal

pub rows-preserved : goal.rows-preserved
rows-preserved g c =
    let count : c.len-number.result ≡ length c.rows.ranks.items = let value = c.len-number.ensures in let ok = c.rows.ranks.ok.0 in omega (arith, value, ok) in
    next_ranked (rank_row c.args.newest.now c.args.strong.now) c.args.rows.now c.rows.row-index _ _ _ _ _ c.rows-test.true count c.rank_of.ensures c.in_ok-push.ensures.items c.rows.invariant
