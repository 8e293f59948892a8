use Rattle.krb_ccache.proofs.Cited.{sym, subst, arith, AllByRecursion, FitsTypedData}
use Rattle.krb_ccache.proofs.SpellingLemmas.{none_if, items_len, items_more}
use Rattle.krb_ccache.proofs.credential.spelling.room_after.Goals as goal

pub returns-in_err-room-clause-none : goal.returns-in_err-room-clause-none
returns-in_err-room-clause-none g c =
    let more = items_more c.args.items.now c.loop-kind.kind-index c.loop-kind-item.result c.loop-kind-test.true c.loop-kind-item.is in
    none_if c.from_residual.ensures (omega (arith, c.loop-kind.invariant.left, c.in_err-room.ensures, c.len.ensures, c.loop-kind-item.result.1.ok.0, items_len _ _ _ more))

pub loop-kind-preserved : goal.loop-kind-preserved
loop-kind-preserved g c =
    let now = c.loop-kind in
    let more = items_more c.args.items.now c.loop-kind.kind-index c.loop-kind-item.result c.loop-kind-test.true c.loop-kind-item.is in
    let taken = c.in_ok-room.ensures in
    let ok = c.loop-kind-item.result.1.ok.0 in
    record {
      within = omega (arith, now.invariant.within, taken);
      left = omega (arith, now.invariant.left, taken, c.len.ensures, ok, items_len _ _ _ more);
      fits = λ rest. now.invariant.fits (subst (AllByRecursion FitsTypedData) (sym more) (record { kind = omega arith; bytes = omega (arith, c.requires, now.invariant.within, taken, c.len.ensures, ok) }, rest));
    }
