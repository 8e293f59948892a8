use Rattle.krb_wire.proofs.Cited.{◌≡◌, length, arith, err_from_is_err_and}
use Rattle.std.proofs.lemmas.Bool.Decides.{nat_tests}
use Rattle.krb_wire.proofs.QuoteLemmas.{quote_batch, quote_none}
use Rattle.krb_wire.proofs.TextLemmas.{appended_part, left_next, left_fails, left_none}
use Rattle.krb_wire.proofs.quote.push_in_batches.Goals as goal

pub loop-rest-preserved : goal.loop-rest-preserved
loop-rest-preserved g c =
    let parts = c.split_at.ensures in
    left_next _ _ _ _ _ _ _ c.loop-rest.invariant (quote_batch c.loop-rest.rest.now _ _ _ parts.front parts.back) (appended_part _ _ _ _ c.in_ok-push_batch.ensures)

pub returns-in_err-push_batch : goal.returns-in_err-push_batch
returns-in_err-push_batch g c =
    let p = err_from_is_err_and c.from_residual.result c.from_residual.ensures.1 in
    let parts = c.split_at.ensures in
    rw p.1 (left_fails _ _ _ _ _ _ _ _ _ c.loop-rest.invariant (quote_batch c.loop-rest.rest.now _ _ _ parts.front parts.back) (appended_part _ _ _ _ c.in_err-push_batch.ensures))

pub returns : goal.returns
returns g c =
    let none : length c.loop-rest.rest.now ≡ 0 = grind (arith, nat_tests) in
    left_none _ _ _ _ c.loop-rest.invariant (quote_none c.loop-rest.rest.now none)
