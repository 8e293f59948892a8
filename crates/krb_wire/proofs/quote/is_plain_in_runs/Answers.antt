use Rattle.krb_wire.proofs.Cited.{◌+◌, ◌-◌, ◌≡◌, length, take, drop, subst, arith, IsTrue, take_rest, All, IsPlain}
use Rattle.krb_wire.proofs.QuoteLemmas.{plain_more, plain_whole}
use Rattle.krb_wire.proofs.quote.is_plain_in_runs.Goals as goal

pub loop-at-preserved : goal.loop-at-preserved
loop-at-preserved g c =
    let bytes = c.args.bytes.now in
    let at = c.loop-at.at in
    let width : (at + g.row.N) - at ≡ g.row.N = omega arith in
    let plain : IsTrue c.is_plain_run.result = search in
    plain_more bytes at g.row.N c.loop-at.invariant (subst (λ n. All IsPlain (take n (drop at bytes))) width (c.is_plain_run.ensures plain))

pub returns : goal.returns
returns g c plain =
    let bytes = c.args.bytes.now in
    let end = subst (All IsPlain) (take_rest bytes (length bytes - g.row.N)) (c.is_plain_run-2.ensures plain) in
    plain_whole bytes c.loop-at.at (length bytes - g.row.N) (omega arith) c.loop-at.invariant end
